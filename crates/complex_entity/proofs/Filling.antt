-- A loop that fills an array of N places from the front: k of them hold `done`, the others still hold z, and what is to come is `rest`, so that
-- all that it writes is r.
use Prim.Native.Nat.{ℕ, suc, ◌+◌, ◌-◌, ◌≤◌, ◌<◌}
use mathlib.Core.Path.{◌≡◌, refl, sym, ap, ◌∙◌}
use mathlib.Core.List.{List, [], ◌∷◌, ◌++◌, append-nil}
use native.Mathlib.Omega.{arith}
use native.Mathlib.Nat.{sub-zero}
use lib.ListN.{length, set, replicate, length-append}
use lib.Seq.{set_at, append_snoc}

pub record Filling {A : Type 0} (N : ℕ) (z : A) (k : ℕ) (out rest r : List A) : Type 0 where
  pub done : List A
  pub out_is : out ≡ done ++ replicate (N - k) z
  pub count : length done ≡ k
  pub room : k ≤ N
  pub whole : done ++ rest ≡ r

module _ {A : Type 0} (N : ℕ) (z : A) where
  pub fill_start : (r : List A) → Filling N z 0 (replicate N z) r r
  fill_start r = record { done = []; out_is = rw sub-zero; count = refl; room = omega arith; whole = refl }

  fill_set : (k : ℕ) (d : List A) (x : A) → length d ≡ k → k < N → set (d ++ replicate (N - k) z) k x ≡ (d ++ (x ∷ [])) ++ replicate (N - (k + 1)) z
  fill_set k d x c h =
      let e : N - k ≡ suc (N - (k + 1)) = omega arith in
      rw e (set_at d z (replicate (N - (k + 1)) z) x k c ∙ sym (append_snoc d x (replicate (N - (k + 1)) z)))

  -- one more is written
  pub fill_next : (k : ℕ) (out rest rest' r : List A) (x : A) → Filling N z k out rest r → k < N → rest ≡ x ∷ rest' → Filling N z (k + 1) (set out k x) rest' r
  fill_next k out rest rest' r x f h e =
      record {
        done = f.done ++ (x ∷ []);
        out_is = rw f.out_is (fill_set k f.done x f.count h);
        count = length-append f.done (x ∷ []) ∙ omega (arith, f.count);
        room = omega arith;
        whole = append_snoc f.done x rest' ∙ ap (λ (l : List A). f.done ++ l) (sym e) ∙ f.whole;
      }

  -- nothing is to come
  pub fill_done : (k : ℕ) (out rest r : List A) → Filling N z k out rest r → rest ≡ [] → (length r ≡ k) × (out ≡ r ++ replicate (N - length r) z)
  fill_done k out rest r f e =
      let d : f.done ≡ r = sym (append-nil f.done) ∙ ap (λ (l : List A). f.done ++ l) (sym e) ∙ f.whole in
      let n : length r ≡ k = ap length (sym d) ∙ f.count in
      (n, f.out_is ∙ rw (d, n))

  -- more is to come, and there is no room
  pub fill_over : (k : ℕ) (out rest r : List A) → Filling N z k out rest r → N ≤ k → 0 < length rest → N < length r
  fill_over k out rest r f h e =
      let n : length f.done + length rest ≡ length r = sym (length-append f.done rest) ∙ ap length f.whole in
      omega (arith, f.count)
