-- What is written of statements leaves no block open and meets no fault of blocks.
use Rattle.std.proofs.Common.{◌≡◌, ℕ, ◌+◌, Bool, true, false, List, [], ◌∷◌, length, refl, sym, ap, ◌∙◌, subst}
use Rattle.std.specs.Prelude.{Option, Some, None, ◌&&◌, not, nat_le, if◌then◌else◌}
use Rattle.f77_ast.specs.declared.places.Part.{Part}
use Rattle.f77_ast.specs.declared.places.Part.TheVariants as parts
use Rattle.f77_ast.specs.Trees.{ExprTree, StmtTree, stmt, WhatTree}
use Rattle.f77_statements.specs.Phrases.{simple, else_if, else_part, end_do, end_if}
use Rattle.f77_structure.specs.declared.mark.Action.{Action}
use Rattle.f77_structure.specs.declared.mark.Role.{Role}
use Rattle.f77_structure.specs.declared.mark.Role.TheVariants as roles
use Rattle.f77_structure.specs.declared.mark.Mark.{Mark}
use Rattle.fx_lists.specs.declared.code.Code.{Code}
use Rattle.fx_lists.specs.declared.code.Code.TheVariants.{TooDeep, BadTerminal}
use Rattle.fx_lists.specs.declared.refusal.Refusal.{Refusal}
use Rattle.f77_structure.specs.declared.open.Kind.{Kind}
use Rattle.f77_structure.specs.declared.open.Kind.TheVariants as kinds
use Rattle.f77_structure.specs.declared.open.Open.{Open}
use Rattle.f77_structure.specs.declared.blocks.Blocks.{Blocks}
use Rattle.fx_lists.specs.Refusals.{refuse_if}
use Rattle.f77_structure.specs.Lists.{first_of}
use Rattle.f77_structure.specs.Opens.{ends_at, can_spoil}
use Rattle.f77_structure.specs.Blocks.{leave_innermost, left_one, ended_by, opened, enter_block, add_landing, parse_executable, keep_jump}
use Rattle.f77_structure.specs.Terminals.{ends_one, spoil, spoil_part, is_forbidden, is_part, spoiled_by}
use Rattle.f77_structure.specs.Steps.{by_role, parse_statement}
use Rattle.f77_parser.specs.Roles.{role_of, action_of}
use Rattle.roundtrip_programs.specs.ModuleTexts.Cards.{Card, card, within}
use Rattle.roundtrip_programs.specs.ModuleTexts.Shallow.{HasRoom}
use Rattle.roundtrip_programs.proofs.ModuleTexts.Calm.{jumped-stack, jumped-found, landed-stack, landed-found, run-same as run-stays}

-- a written statement at a place, at the line that this gives the place
abbrev pub mark_at : (ℕ → ℕ) → ℕ → Card → Mark
mark_at f place c = record { line = f place; label = c.label; role = role_of c.phrase; deep = false }

abbrev pub all_set : (ℕ → ℕ) → ℕ → List Card → Blocks → Blocks
all_set f place [] b = b
all_set f place (c ∷ cs) b = all_set f (place + 1) cs (parse_statement place (mark_at f place c) b)

-- the innermost block is no DO that a label ends
abbrev pub Unlabelled : List Open → Type 0
Unlabelled [] = Unit {0}
Unlabelled (o ∷ os) = (l : ℕ) → ends_at l o.kind ≡ false

-- the same blocks are open, and nothing more is found
pub record Stays (b c : Blocks) : Type 0 where
  pub stack : c.stack ≡ b.stack
  pub found : c.found ≡ b.found

stays : (b : Blocks) → Stays b b
stays b = record { stack = refl; found = refl }

onward : (a b c : Blocks) → Stays a b → Stays b c → Stays a c
onward a b c h e = record { stack = e.stack ∙ h.stack; found = e.found ∙ h.found }

if-false : (v : Bool) (x y : Blocks) → v ≡ false → (if v then x else y) ≡ y
if-false v x y h = ap (λ b. if b then x else y) h

ended-stays : (l : ℕ) (os : List Open) (b : Blocks) → Unlabelled os → ended_by l os b ≡ b
ended-stays l [] b u = refl
ended-stays l (o ∷ os) b u = if-false (ends_at l o.kind) (ended_by l os (left_one o os b)) b (u l)

stood-stays : (label : Option ℕ) (b : Blocks) → Unlabelled b.stack → Stays b (parse_executable label b)
unfolding parse_executable
stood-stays None b u = stays b
stood-stays (Some l) b u =
    let e = ended-stays l b.stack (add_landing (Some l) b) u in record { stack = ap (λ x. x.stack) e; found = ap (λ x. x.found) e }

one-false : (l : ℕ) (os : List Open) → Unlabelled os → ends_one l (first_of os) ≡ false
unfolding can_spoil
one-false l [] u = refl
one-false l (o ∷ os) u = ap (λ v. v && not o.spoiled) (u l)

noted-not : (w : Bool) (line : ℕ) (f : Code) (found : Option Refusal) → w ≡ false → refuse_if w line f found ≡ found
unfolding refuse_if
noted-not w line f found h = ap (λ v. refuse_if v line f found) h

spoil-stays : (l line : ℕ) (b : Blocks) → Unlabelled b.stack → Stays b (spoil l line b)
spoil-stays l line b u =
    let e = one-false l b.stack u in record { stack = run-stays l b.stack e; found = noted-not (ends_one l (first_of b.stack)) line BadTerminal b.found e }

stays-if : (v : Bool) (a x y : Blocks) → Stays a x → Stays a y → Stays a (if v then x else y)
stays-if true a x y h e = h
stays-if false a x y h e = e

-- a label of a statement that is no part of a block changes nothing
spoiled-stays : (role : Role) (label : Option ℕ) (line : ℕ) (b : Blocks) → is_part role ≡ false → Unlabelled b.stack → Stays b (spoiled_by role label line b)
spoiled-stays role None line b p u = stays b
spoiled-stays role (Some l) line b p u =
    stays-if (is_forbidden role) b (spoil l line b) (if is_part role then spoil_part l line b else b) (spoil-stays l line b u)
    (let P : Blocks → Type 0 = λ x. Stays b x in subst P (sym (if-false (is_part role) (spoil_part l line b) b p)) (stays b))

-- ---- one statement

pub unlabelled-at : (x y : List Open) → x ≡ y → Unlabelled x → Unlabelled y
unlabelled-at x y e u = let P : List Open → Type 0 = λ s. Unlabelled s in subst P e u

plain-stays : (role : Role) (a : Action) (label : Option ℕ) (line : ℕ) (b : Blocks) → is_part role ≡ false → Unlabelled b.stack
    → Stays b (parse_executable label (keep_jump a line (spoiled_by role label line b)))
plain-stays role a label line b p u =
    let c = spoiled_by role label line b in let d = keep_jump a line c in
    let s = spoiled-stays role label line b p u in
    let e = jumped-stack a line c ∙ s.stack in
    let t = stood-stays label d (unlabelled-at b.stack d.stack (sym e) u) in
    record { stack = t.stack ∙ e; found = t.found ∙ jumped-found a line c ∙ s.found }

pub simply-set : (f : ℕ → ℕ) (place : ℕ) (part : Part) (label : Option ℕ) (w : WhatTree) (b : Blocks) → Unlabelled b.stack → Stays b (all_set f place (card part label (simple w) ∷ []) b)
unfolding parse_statement
simply-set f place part label w b u =
    let s = plain-stays (roles.Plain (action_of w)) (action_of w) label (f place) (record b { place = place }) refl u in record { stack = s.stack; found = s.found }

pub within-set : (f : ℕ → ℕ) (place id : ℕ) (label : Option ℕ) (e : ExprTree) (s : StmtTree) (b : Blocks) → Unlabelled b.stack → Stays b (all_set f place (within id label e s ∷ []) b)
unfolding parse_statement
within-set f place id label e (stmt inner own w) b u =
    let s = plain-stays (roles.LogicalIf (action_of w)) (action_of w) label (f place) (record b { place = place }) refl u in record { stack = s.stack; found = s.found }

-- ---- blocks

-- a block of this kind is open in these
pub record Within (k : Kind) (os : List Open) (found : Option Refusal) (c : Blocks) : Type 0 where
  pub top : Open
  pub kind : top.kind ≡ k
  pub stack : c.stack ≡ top ∷ os
  pub same : c.found ≡ found

-- these are open, and this is found
pub record Around (os : List Open) (found : Option Refusal) (c : Blocks) : Type 0 where
  pub stack : c.stack ≡ os
  pub same : c.found ≡ found

pub enters : (k : Kind) (role : Role) (label : Option ℕ) (line place : ℕ) (b : Blocks) → is_part role ≡ false → Unlabelled b.stack → HasRoom (length b.stack)
    → Within k b.stack b.found (enter_block k line (add_landing label (spoiled_by role label line (record b { place = place }))))
enters k role label line place b p u room =
    let c = spoiled_by role label line (record b { place = place }) in let d = add_landing label c in
    let s = spoiled-stays role label line (record b { place = place }) p u in
    let e : d.stack ≡ b.stack = landed-stack label c ∙ s.stack in
    let at = record d { found = refuse_if (nat_le 64 (length d.stack)) line TooDeep d.found } in
    record {
      top = opened k line at;
      kind = refl;
      stack = ap (λ x. opened k line at ∷ x) e;
      same = noted-not (nat_le 64 (length d.stack)) line TooDeep d.found (ap (λ x. nat_le 64 (length x)) e ∙ room) ∙ landed-found label c ∙ s.found;
    }

-- the blocks with the innermost one of this kind, as it is
literal : (k : Kind) (os : List Open) (found : Option Refusal) (place : ℕ) (c : Blocks) (w : Within k os found c)
    → record c { place = place; stack = record w.top { kind = k } ∷ os } ≡ record c { place = place }
literal k os found place c w = ap (λ s. record c { place = place; stack = s }) (ap (λ q. record w.top { kind = q } ∷ os) (sym w.kind) ∙ sym w.stack)

ends : (role : Role) (k : Kind) (os : List Open) (found : Option Refusal) (line place : ℕ) (c : Blocks) (w : Within k os found c)
    → (let at = record c { place = place; stack = record w.top { kind = k } ∷ os } in ((by_role role None line at).stack ≡ os) × ((by_role role None line at).found ≡ c.found))
    → Around os found (by_role role None line (record c { place = place }))
ends role k os found line place c w h =
    let e = literal k os found place c w in record {
      stack = sym (ap (λ x. (by_role role None line x).stack) e) ∙ h.0;
      same = sym (ap (λ x. (by_role role None line x).found) e) ∙ h.1 ∙ w.same;
    }

pub close-do : (f : ℕ → ℕ) (place id : ℕ) (os : List Open) (found : Option Refusal) (c : Blocks) → Within (kinds.Do None) os found c → Around os found (all_set f place (card (parts.Close id) None end_do ∷ []) c)
unfolding parse_statement parse_executable
close-do f place id os found c w = ends roles.EndDo (kinds.Do None) os found (f place) place c w (refl, refl)

pub close-if : (f : ℕ → ℕ) (place id : ℕ) (os : List Open) (found : Option Refusal) (c : Blocks) → Within kinds.If os found c → Around os found (all_set f place (card (parts.Close id) None end_if ∷ []) c)
unfolding parse_statement parse_executable
close-if f place id os found c w = ends roles.EndIf kinds.If os found (f place) place c w (refl, refl)

pub close-else : (f : ℕ → ℕ) (place id : ℕ) (os : List Open) (found : Option Refusal) (c : Blocks) → Within kinds.Else os found c → Around os found (all_set f place (card (parts.Close id) None end_if ∷ []) c)
unfolding parse_statement parse_executable
close-else f place id os found c w = ends roles.EndIf kinds.Else os found (f place) place c w (refl, refl)

pub next-if : (f : ℕ → ℕ) (place : ℕ) (part : Part) (t : ExprTree) (os : List Open) (found : Option Refusal) (c : Blocks) → Within kinds.If os found c
    → Within kinds.If os found (parse_statement place (mark_at f place (card part None (else_if t))) c)
unfolding parse_statement
next-if f place part t os found c w =
    let at = record c { place = place; stack = record w.top { kind = kinds.If } ∷ os } in
    let e = literal kinds.If os found place c w in record {
      top = opened kinds.If w.top.line (leave_innermost at);
      kind = refl;
      stack = sym (ap (λ x. (by_role roles.ElseIf None (f place) x).stack) e);
      same = sym (ap (λ x. (by_role roles.ElseIf None (f place) x).found) e) ∙ w.same;
    }

pub next-else : (f : ℕ → ℕ) (place : ℕ) (part : Part) (os : List Open) (found : Option Refusal) (c : Blocks) → Within kinds.If os found c
    → Within kinds.Else os found (parse_statement place (mark_at f place (card part None else_part)) c)
unfolding parse_statement
next-else f place part os found c w =
    let at = record c { place = place; stack = record w.top { kind = kinds.If } ∷ os } in
    let e = literal kinds.If os found place c w in record {
      top = opened kinds.Else w.top.line (leave_innermost at);
      kind = refl;
      stack = sym (ap (λ x. (by_role roles.Else None (f place) x).stack) e);
      same = sym (ap (λ x. (by_role roles.Else None (f place) x).found) e) ∙ w.same;
    }
