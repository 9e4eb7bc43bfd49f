-- Items that follow one another to the end of a statement are read back, whatever stands between them.
use Rattle.std.proofs.Common.{◌≡◌, ℕ, zero, suc, ◌≤◌, List, [], ◌∷◌, ◌++◌, length, ap, ◌∙◌, sym, arith, append_assoc, append-nil, Some, None}
use Rattle.f77_exprs.specs.declared.at.Notes.{Notes}
use Rattle.f77_exprs.specs.State.{State, Reader}
use Rattle.f77_exprs.specs.Grammar.{Between, more_by}
use Rattle.roundtrip_programs.specs.Statements.Formed.{Each}
use Rattle.roundtrip_programs.specs.Statements.Follows.{standing}
use Rattle.roundtrip_programs.proofs.Statements.Items.{ends_at, steps_on}

-- the next item is found and read
pub record Next {A : Type 0} (between : Between) (one : Reader A) (text : List ℕ) (x : A) (rest : List ℕ) (k : Notes) : Type 0 where
  pub behind : State
  pub stands : between (standing text k) ≡ Some behind
  pub reads : one behind ≡ Some (x, standing rest k)

pub chained_back : {A : Type 0} (between : Between) (one : Reader A) (rest : List A → List ℕ) (P : A → Type 0) (k : Notes)
    → ((x : A) (xs : List A) → P x → Each P xs → Next between one (rest (x ∷ xs)) x (rest xs) k) → between (standing (rest []) k) ≡ None
    → (xs : List A) (n : ℕ) (found : List A) → Each P xs → length xs ≤ n → more_by between one n found (standing (rest xs) k) ≡ Some (found ++ xs, standing (rest []) k)
chained_back between one rest P k next e [] n found h l = ends_at between one n found (standing (rest []) k) e ∙ ap (λ (y : List _). Some (y, standing (rest []) k)) (sym (append-nil found))
chained_back between one rest P k next e (x ∷ xs) zero found h l = absurd (omega arith)
chained_back between one rest P k next e (x ∷ xs) (suc n) found h l =
    let y = next x xs h.first h.others in
    steps_on between one n found x (standing (rest (x ∷ xs)) k) y.behind (standing (rest xs) k) y.stands y.reads
    ∙ chained_back between one rest P k next e xs n (found ++ x ∷ []) h.others (omega arith)
    ∙ ap (λ (z : List _). Some (z, standing (rest []) k)) (append_assoc found (x ∷ []) xs)
