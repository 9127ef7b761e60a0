-- What is proved of expressions as bytes, and of reading them.
use Rattle.std.specs.Prelude.{◌≡◌, List, [], ◌∷◌, ℕ, length, take, Option, Some}
use Rattle.expression.specs.MeaningExpression.{Expr, reference, andor, oneof, Terms, end, ◌then◌}
use Rattle.nodes.specs.MeaningBytes.{bytes_of, bytes_of_all}
use Rattle.nodes.specs.MirrorBuilding.{Sort, an_expression, some_terms, Reads}

-- ANDOR(1,ONEOF(2))
abbrev pub Example : Type 0
Example = bytes_of (andor (reference 1 then oneof (reference 2 then end) then end)) ≡ 81 ∷ 0 ∷ 13 ∷ 80 ∷ 0 ∷ 2 ∷ 0 ∷ 1 ∷ 83 ∷ 0 ∷ 5 ∷ 80 ∷ 0 ∷ 2 ∷ 0 ∷ 2 ∷ []

-- bytes say one expression at most, and one list of terms
abbrev pub OneExpression : Type 0
OneExpression = (d e : Expr ℕ) → bytes_of d ≡ bytes_of e → d ≡ e

abbrev pub OneTerms : Type 0
OneTerms = (t u : Terms ℕ) → bytes_of_all t ≡ bytes_of_all u → t ≡ u

-- reading has one outcome: the answer, and the numbers that stand then
abbrev pub OneOutcome : Sort → Type 0
OneOutcome S = (bytes before a b : List ℕ) (calls used : ℕ) (r s : Option ℕ) → length a ≡ length before → length b ≡ length before
    → Reads S bytes calls used before a r → Reads S bytes calls used before b s → (r ≡ s) × ((n : ℕ) → r ≡ Some n → take n a ≡ take n b)

abbrev pub OneReadNode : Type 0
OneReadNode = OneOutcome an_expression

abbrev pub OneReadTerms : Type 0
OneReadTerms = OneOutcome some_terms
