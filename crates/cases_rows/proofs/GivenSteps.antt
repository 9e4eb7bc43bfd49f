-- Terms checked from the last to the first.
use Rattle.std.proofs.Common.{◌≡◌, ℕ, suc, ◌+◌, ◌<◌, ◌≤◌, true, List, [], ◌∷◌, ◌++◌, length, drop, get_or, drop-cons, drop_of_length-le, add-one, arith, sym, subst}
use Rattle.affine_systems.specs.declared.row.Var.{Var}
use Rattle.affine_systems.specs.declared.row.Term.{Term}
use Rattle.affine_systems.specs.declared.row.Row.{Row}
use Rattle.affine_systems.specs.Terms.{var_lt, IsBefore, Ascends}
use Rattle.affine_systems.specs.Rows.{AllRows}
use Rattle.affine_systems.specs.Given.{IsGiven, Fits}
use Rattle.transformer_algebra.specs.declared.transformer.Transformer.{Transformer}
use Rattle.transformer_algebra.specs.Transformers.{AllFit}
use Rattle.cases_rows.specs.Given.{IsGivenTerm, IsBeforeFirst, AreGiven}
use Rattle.affine_systems.proofs.AscendLaws.{before_later}
use Rattle.transformer_algebra.proofs.Shared.{fits-push as fit_last}

pub before-none : (v : Var) (ts : List Term) → length ts ≡ 0 → IsBeforeFirst v ts
before-none v [] e = tt
before-none v (t ∷ ts) e = absurd (omega (arith, e))

pub before-first : (v : Var) (ts : List Term) (d : Term) → 0 < length ts → var_lt v (get_or ts 0 d).var ≡ true → IsBeforeFirst v ts
before-first v [] d l e = absurd (omega (arith, l))
before-first v (t ∷ ts) d l e = e

pub ruleset before_steps = (before-none, before-first)

before-all : (v : Var) (ts : List Term) → IsBeforeFirst v ts → Ascends ts → IsBefore v ts
before-all v [] b a = tt
before-all v (t ∷ ts) b a = (b, before_later v t.var ts b a.1)

given-cons : (t : Term) (ts : List Term) → IsGivenTerm t → IsBeforeFirst t.var ts → AreGiven ts → AreGiven (t ∷ ts)
given-cons t ts g b h = record { ascends = (g.0, before-all t.var ts b h.ascends, h.ascends); below = (g.1, h.below) }

pub given-begin : (ts : List Term) (i : ℕ) → length ts ≤ i → AreGiven (drop i ts)
given-begin ts i l = subst AreGiven (sym (drop_of_length-le ts l)) (record { ascends = tt; below = tt })

pub given-more : (ts rest : List Term) (i : ℕ) (d : Term) → i < length ts → IsGivenTerm (get_or ts i d) → rest ≡ drop (suc i) ts → IsBeforeFirst (get_or ts i d).var rest → AreGiven (drop (suc i) ts) → AreGiven (drop i ts)
given-more ts rest i d l g e b h =
    subst AreGiven (sym (drop-cons ts i d l)) (given-cons (get_or ts i d) (drop (suc i) ts) g (subst (IsBeforeFirst (get_or ts i d).var) e b) h)

pub rows-more : (rs : List Row) (k : ℕ) (r : Row) → k < length rs → r ≡ get_or rs k r → IsGiven r → (AllRows IsGiven (drop (k + 1) rs) → AllRows IsGiven rs) → AllRows IsGiven (drop k rs) → AllRows IsGiven rs
rows-more rs k r l e g f h =
    f (subst (λ n. AllRows IsGiven (drop n rs)) (sym (add-one k)) ((subst (λ (ss : List Row). AllRows IsGiven ss) (drop-cons rs k r l) h).1))

-- ---- transformers read one after the other

pub fit-more : (ts us : List Transformer) (t : Transformer) → us ≡ ts ++ t ∷ [] → AllFit ts → Fits t.system → AllFit us
fit-more ts us t e h k = subst AllFit (sym e) (fit_last ts t h k)

pub ruleset arm_steps = (fit-more)
