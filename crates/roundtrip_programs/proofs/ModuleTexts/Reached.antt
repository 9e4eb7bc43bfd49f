-- Each GO TO of an outline reaches its label, just where the GO TOs of blocks that show it have no fault.
use Rattle.std.proofs.Common.{◌≡◌, ℕ, Bool, true, false, List, [], ◌∷◌, nat_eq, refl, sym, ap, ap₂, ◌∙◌}
use Rattle.std.specs.Prelude.{Option, None, ◌||◌, ◌&&◌, not, if◌then◌else◌}
use Rattle.std.specs.List.{list_all}
use Rattle.fx_lists.specs.declared.code.Code.TheVariants.{LabelMissing, JumpIntoBlock}
use Rattle.fx_lists.specs.declared.refusal.Refusal.{Refusal}
use Rattle.f77_structure.specs.declared.open.Span.{Span}
use Rattle.f77_structure.specs.declared.blocks.Landing.{Landing}
use Rattle.f77_structure.specs.declared.blocks.Jump.{Jump}
use Rattle.fx_lists.specs.Refusals.{refuse_if}
use Rattle.f77_structure.specs.Jumps.{stands, reaches, check_jump, all_judged}
use Rattle.roundtrip_programs.specs.Statements.Formed.{Each}
use Rattle.roundtrip_programs.proofs.ModuleTexts.Calm.{true-false}
use Rattle.roundtrip_programs.proofs.ModuleTexts.Steady.{judged-found}
use Rattle.roundtrip_programs.proofs.ModuleTexts.Outlines.{Going}
use Rattle.roundtrip_programs.proofs.ModuleTexts.Shown.{has, Within, AreKept}
use Rattle.fx_lists.proofs.Refused.{none_refused}

-- each statement with the label of the GO TO stands in a list that contains the GO TO
abbrev meets : List Landing → Going → Bool
meets landings g = list_all (λ x. not (nat_eq x.label g.label) || has x.list g.lists) landings

abbrev Reaches : List Landing → Going → Type 0
Reaches landings g = record { stands : stands landings g.label ≡ true; meets : meets landings g ≡ true }

abbrev pub AllReach : List Landing → List Going → Type 0
AllReach landings gs = Each (Reaches landings) gs

reaches-meets : (spans : List Span) (j : Jump) (g : Going) (ls : List Landing) → j.label ≡ g.label → Within spans j.place g.lists → reaches spans ls j ≡ meets ls g
reaches-meets spans j g [] e w = refl
reaches-meets spans j g (x ∷ ls) e w =
    ap₂ (λ v u. v && u) (ap₂ (λ l v. not (nat_eq x.label l) || v) e (w x.list)) (reaches-meets spans j g ls e w)

judged-by : (s r : Bool) (line : ℕ) (found : Option Refusal)
    → (if s then refuse_if (not r) line JumpIntoBlock found else refuse_if true line LabelMissing found) ≡ None → (s ≡ true) × (r ≡ true)
judged-by true true line found h = (refl, refl)
judged-by true false line found h = absurd (true-false (none_refused _ _ _ _ h).0)
judged-by false r line found h = absurd (true-false (none_refused _ _ _ _ h).0)

pub judged-reach : (n : ℕ) (spans : List Span) (landings : List Landing) (js : List Jump) (gs : List Going) (found : Option Refusal) → AreKept n spans js gs
    → all_judged spans landings js found ≡ None → AllReach landings gs
judged-reach n spans landings [] [] found k h = tt
judged-reach n spans landings [] (g ∷ gs) found k h = absurd k
judged-reach n spans landings (j ∷ js) [] found k h = absurd k
judged-reach n spans landings (j ∷ js) (g ∷ gs) found k h =
    let next = check_jump spans landings j found in
    let t = judged-by (stands landings j.label) (reaches spans landings j) j.line found (judged-found spans landings js next h) in
    record {
      first = record {
        stands = ap (stands landings) (sym k.label) ∙ t.0;
        meets = sym (reaches-meets spans j g landings k.label k.within) ∙ t.1;
      };
      others = judged-reach n spans landings js gs next k.others h;
    }

judged-none : (s r : Bool) (line : ℕ) → s ≡ true → r ≡ true → (if s then refuse_if (not r) line JumpIntoBlock None else refuse_if true line LabelMissing None) ≡ None
unfolding refuse_if
judged-none s r line h e = ap₂ (λ v u. if v then refuse_if (not u) line JumpIntoBlock None else refuse_if true line LabelMissing None) h e

pub reach-judged : (n : ℕ) (spans : List Span) (landings : List Landing) (js : List Jump) (gs : List Going) → AreKept n spans js gs → AllReach landings gs
    → all_judged spans landings js None ≡ None
reach-judged n spans landings [] [] k h = refl
reach-judged n spans landings [] (g ∷ gs) k h = absurd k
reach-judged n spans landings (j ∷ js) [] k h = absurd k
reach-judged n spans landings (j ∷ js) (g ∷ gs) k h =
    ap (all_judged spans landings js) (judged-none (stands landings j.label) (reaches spans landings j) j.line
    (ap (stands landings) k.label ∙ h.first.stands) (reaches-meets spans j g landings k.label k.within ∙ h.first.meets))
    ∙ reach-judged n spans landings js gs k.others h.others
