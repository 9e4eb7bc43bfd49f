-- A fault that is found stays: without one at the end there is none before.
use Rattle.std.proofs.Common.{◌≡◌, ℕ, ◌+◌, Bool, true, false, List, [], ◌∷◌, refl, sym, ap, ◌∙◌}
use Rattle.std.specs.Prelude.{Option, Some, None, not, if◌then◌else◌}
use Rattle.fx_lists.specs.declared.refusal.Refusal.{Refusal}
use Rattle.fx_lists.specs.declared.code.Code.TheVariants.{LabelMissing, JumpIntoBlock}
use Rattle.f77_structure.specs.declared.mark.Role.{Role}
use Rattle.f77_structure.specs.declared.mark.Role.TheVariants.{Program, Subroutine, Specification, Plain, LogicalIf, BlockIf, ElseIf, Else, EndIf, Do, EndDo, End}
use Rattle.f77_structure.specs.declared.mark.Mark.{Mark}
use Rattle.f77_structure.specs.declared.open.Kind.TheVariants as kinds
use Rattle.f77_structure.specs.declared.open.Sought.TheVariants as sought
use Rattle.f77_structure.specs.declared.open.Span.{Span}
use Rattle.f77_structure.specs.declared.blocks.Blocks.{Blocks}
use Rattle.f77_structure.specs.declared.blocks.Landing.{Landing}
use Rattle.f77_structure.specs.declared.blocks.Jump.{Jump}
use Rattle.fx_lists.specs.Refusals.{refuse_if}
use Rattle.f77_structure.specs.Lists.{first_of}
use Rattle.f77_structure.specs.Opens.{within_if, within_do}
use Rattle.f77_structure.specs.Blocks.{add_landing, parse_executable, keep_jump}
use Rattle.f77_structure.specs.Terminals.{spoiled_by}
use Rattle.f77_structure.specs.Steps.{by_role, parse_statement, all_stepped, blocks_of}
use Rattle.f77_structure.specs.Jumps.{stands, reaches, check_jump, all_judged, block_fault}
use Rattle.f77_structure.specs.Order.{order_of}
use Rattle.f77_structure.specs.First.{first_fault}
use Rattle.f77_structure.specs.Checks.{fault_of}
use Rattle.f77_structure.proofs.AsCode.{as_code}
use Rattle.roundtrip_programs.proofs.ModuleTexts.Calm.{true-false, down-found, part-found, ended-found, entered-calm, stood-found, jumped-found, landed-found, spoiled-calm}
use Rattle.fx_lists.proofs.Refused.{none_refused}

role-found : (role : Role) (label : Option ℕ) (line : ℕ) (b : Blocks) → (by_role role label line b).found ≡ None → b.found ≡ None
role-found Program label line b h = h
role-found Subroutine label line b h = h
role-found Specification label line b h = h
role-found (Plain a) label line b h = sym (stood-found label (keep_jump a line b) ∙ jumped-found a line b) ∙ h
role-found (LogicalIf a) label line b h = sym (stood-found label (keep_jump a line b) ∙ jumped-found a line b) ∙ h
role-found BlockIf label line b h = sym (landed-found label b) ∙ (entered-calm kinds.If line (add_landing label b) h).1
role-found ElseIf label line b h = part-found kinds.If line b h
role-found Else label line b h = part-found kinds.Else line b h
role-found EndIf label line b h = ended-found sought.BlockIf (within_if (first_of b.stack)) line b (sym (stood-found label _) ∙ h)
role-found (Do t) label line b h = sym (landed-found label b) ∙ (entered-calm (kinds.Do t) line (add_landing label b) h).1
role-found EndDo label line b h =
    let x = parse_executable label b in sym (stood-found label b) ∙ ended-found sought.PlainDo (within_do (first_of x.stack)) line x h
role-found End label line b h = let x = parse_executable label b in sym (stood-found label b) ∙ down-found sought.Neither x.stack x h

-- a step is what its role does, the last statements of DOs being what they may be
pub record IsStep (place : ℕ) (m : Mark) (b : Blocks) : Type 0 where
  pub before : b.found ≡ None
  pub calm : spoiled_by m.role m.label m.line (record b { place = place }) ≡ record b { place = place }
  pub same : parse_statement place m b ≡ by_role m.role m.label m.line (record b { place = place })

pub step-calm : (place : ℕ) (m : Mark) (b : Blocks) → (parse_statement place m b).found ≡ None → IsStep place m b
unfolding parse_statement
step-calm place m b h =
    let s = spoiled-calm m.role m.label m.line (record b { place = place }) (role-found m.role m.label m.line _ h) in
    record { before = s.0; calm = s.1; same = ap (by_role m.role m.label m.line) s.1 }

pub all-found : (place : ℕ) (ms : List Mark) (b : Blocks) → (all_stepped place ms b).found ≡ None → b.found ≡ None
all-found place [] b h = h
all-found place (m ∷ ms) b h = (step-calm place m b (all-found (place + 1) ms (parse_statement place m b) h)).before

judged-by : (s r : Bool) (line : ℕ) (found : Option Refusal)
    → (if s then refuse_if (not r) line JumpIntoBlock found else refuse_if true line LabelMissing found) ≡ None → found ≡ None
judged-by true r line found h = (none_refused _ _ _ _ h).1
judged-by false r line found h = (none_refused _ _ _ _ h).1

pub judged-found : (spans : List Span) (landings : List Landing) (js : List Jump) (found : Option Refusal) → all_judged spans landings js found ≡ None → found ≡ None
judged-found spans landings [] found h = h
judged-found spans landings (j ∷ js) found h =
    judged-by (stands landings j.label) (reaches spans landings j) j.line found (judged-found spans landings js (check_jump spans landings j found) h)

first-none : (a b : Option Refusal) → first_fault a b ≡ None → (a ≡ None) × (b ≡ None)
first-none None b h = (refl, h)
first-none (Some f) b h = absurd (true-false (none_refused true _ _ _ h).0)

pub no-fault : (ms : List Mark) → fault_of ms ≡ None → (order_of ms ≡ None) × (block_fault (blocks_of ms) ≡ None) × ((blocks_of ms).found ≡ None)
no-fault ms h =
    let f = first-none (order_of ms) (block_fault (blocks_of ms)) (as_code ms ∙ h) in let b = blocks_of ms in
    (f.0, f.1, judged-found b.spans b.landings b.jumps b.found f.1)
