-- What a step does to the blocks of a module where no fault is found.
use Rattle.std.proofs.Common.{◌≡◌, ℕ, Bool, true, false, List, [], ◌∷◌, length, refl, sym, ap, ◌∙◌}
use Rattle.std.specs.Prelude.{Option, Some, None, not, nat_le, if◌then◌else◌}
use Rattle.fx_lists.specs.declared.code.Code.{Code}
use Rattle.fx_lists.specs.declared.code.Code.TheVariants.{BadTerminal, TooDeep}
use Rattle.fx_lists.specs.declared.refusal.Refusal.{Refusal}
use Rattle.f77_structure.specs.declared.mark.Action.{Action}
use Rattle.f77_structure.specs.declared.mark.Action.TheVariants.{Goto, Return, Stop, Other}
use Rattle.f77_structure.specs.declared.mark.Role.{Role}
use Rattle.f77_structure.specs.declared.open.Kind.{Kind}
use Rattle.f77_structure.specs.declared.open.Sought.{Sought}
use Rattle.f77_structure.specs.declared.open.Sought.TheVariants as sought
use Rattle.f77_structure.specs.declared.open.Open.{Open}
use Rattle.f77_structure.specs.declared.open.Span.{Span}
use Rattle.f77_structure.specs.declared.blocks.Blocks.{Blocks}
use Rattle.f77_structure.specs.declared.blocks.Landing.{Landing}
use Rattle.f77_structure.specs.declared.blocks.Jump.{Jump}
use Rattle.fx_lists.specs.Refusals.{refuse_if}
use Rattle.f77_structure.specs.Lists.{first_of}
use Rattle.f77_structure.specs.Opens.{is_if, fits, within_if}
use Rattle.f77_structure.specs.Blocks.{left_one, leave_innermost, refuse_unclosed, down_to, push_block, enter_block, stray, add_landing, keep_jump}
use Rattle.f77_structure.specs.Terminals.{spoiled, spoiled_run, ends_one, spoil, spoil_behind, spoil_around, spoil_within, spoil_part, is_forbidden, is_part, spoiled_by}
use Rattle.f77_structure.specs.Steps.{is_else, next_arm, divided_in, part, end_block}
pub use Rattle.f77_structure.proofs.Roles.{ended_by-found, stood-found, jumped-found, landed-found}
use Rattle.f77_structure.proofs.Roles.{left-found}
use Rattle.fx_lists.proofs.Refused.{none_refused}

pub some-none : {A : Type 0} (x : A) → Some x ≡ None → ⊥
some-none x h = cc

pub true-false : true ≡ false → ⊥
true-false h = cc

-- nothing is noted, and what was found stays
pub noted-same : (w : Bool) (line : ℕ) (f : Code) (found : Option Refusal) → refuse_if w line f found ≡ None → refuse_if w line f found ≡ found
unfolding refuse_if
noted-same true line f found h = absurd (some-none _ h)
noted-same false line f found h = refl

-- P holds of both, and so of the one that is chosen
pub either : (P : Blocks → Type 0) (v : Bool) (x y : Blocks) → P x → P y → P (if v then x else y)
either P true x y h e = h
either P false x y h e = e

-- ---- what finds no fault

pub jumped-stack : (a : Action) (line : ℕ) (b : Blocks) → (keep_jump a line b).stack ≡ b.stack
jumped-stack (Goto l) line b = refl
jumped-stack Return line b = refl
jumped-stack Stop line b = refl
jumped-stack Other line b = refl

pub landed-stack : (label : Option ℕ) (b : Blocks) → (add_landing label b).stack ≡ b.stack
landed-stack None b = refl
landed-stack (Some l) b = refl

-- ---- a fault that is found stays

pub down-found : (what : Sought) (os : List Open) (b : Blocks) → (down_to what os b).found ≡ None → b.found ≡ None
down-found what [] b h = h
down-found what (o ∷ os) b h =
    either (λ x. x.found ≡ None → b.found ≡ None) (fits what o.kind) b (down_to what os (left_one o os (record b { found = refuse_unclosed o b.found })))
    (λ e. e) (λ e. (none_refused _ _ _ _ (down-found what os (left_one o os (record b { found = refuse_unclosed o b.found })) e)).1) h

stray-none : (line : ℕ) (b : Blocks) → (stray line b).found ≡ None → ⊥
stray-none line b h = true-false (none_refused true _ _ _ h).0

pub divided-found : (next : Kind) (line : ℕ) (first : Option Open) (b : Blocks) → (next_arm next line first b).found ≡ None → b.found ≡ None
divided-found next line None b h = absurd (stray-none line b h)
divided-found next line (Some o) b h =
    either (λ x. x.found ≡ None → b.found ≡ None) (is_else o.kind) (stray line b) (push_block next o.line (leave_innermost b))
    (λ e. absurd (stray-none line b e)) (λ e. sym (left-found b.stack b) ∙ e) h

pub part-found : (next : Kind) (line : ℕ) (b : Blocks) → (part next line b).found ≡ None → b.found ≡ None
part-found next line b h =
    let x = down_to sought.BlockIf b.stack b in
    either (λ x. x.found ≡ None → b.found ≡ None) (within_if (first_of b.stack)) (divided_in next line x) (stray line b)
    (λ e. down-found sought.BlockIf b.stack b (divided-found next line (first_of x.stack) x e)) (λ e. absurd (stray-none line b e)) h

pub ended-found : (what : Sought) (within : Bool) (line : ℕ) (b : Blocks) → (end_block what within line b).found ≡ None → b.found ≡ None
ended-found what within line b h =
    let x = down_to what b.stack b in
    either (λ x. x.found ≡ None → b.found ≡ None) within (leave_innermost x) (stray line b)
    (λ e. down-found what b.stack b (sym (left-found x.stack x) ∙ e)) (λ e. absurd (stray-none line b e)) h

-- ---- and without one the blocks are as they are to be

-- the innermost block has not had a bad end
abbrev pub Fresh : List Open → Type 0
Fresh [] = Unit {0}
Fresh (o ∷ os) = o.spoiled ≡ false

abbrev pub Fitting : Sought → List Open → Type 0
Fitting what [] = Unit {0}
Fitting what (o ∷ os) = fits what o.kind ≡ true

kept-if : (v : Bool) (x b : Blocks) → (if v then b else x).found ≡ None → (x.found ≡ None → ⊥) → ((if v then b else x) ≡ b) × (v ≡ true)
kept-if true x b h e = (refl, refl)
kept-if false x b h e = absurd (e h)

pub down-calm : (what : Sought) (os : List Open) (b : Blocks) → Fresh os → (down_to what os b).found ≡ None → (down_to what os b ≡ b) × Fitting what os
down-calm what [] b f h = (refl, tt)
down-calm what (o ∷ os) b f h =
    kept-if (fits what o.kind) (down_to what os (left_one o os (record b { found = refuse_unclosed o b.found }))) b h
    (λ e. true-false (ap not (sym f) ∙ (none_refused _ _ _ _ (down-found what os (left_one o os (record b { found = refuse_unclosed o b.found })) e)).0))

pub record Divides (next : Kind) (line : ℕ) (o : Open) (b : Blocks) : Type 0 where
  pub is_if : is_if o.kind ≡ true
  pub is_else : is_else o.kind ≡ false
  pub same : part next line b ≡ push_block next o.line (leave_innermost b)

-- blocks of these parts
abbrev pub blocks : ℕ → List Open → List Span → List Landing → List Jump → Option Refusal → Blocks
blocks place stack spans landings jumps found = record { place = place; stack = stack; spans = spans; landings = landings; jumps = jumps; found = found }

pub part-none : (next : Kind) (line : ℕ) (b : Blocks) → b.stack ≡ [] → (part next line b).found ≡ None → ⊥
part-none next line b e h = stray-none line b (sym (ap (λ s. (if within_if (first_of s) then divided_in next line (down_to sought.BlockIf b.stack b) else stray line b).found) e) ∙ h)

divided-calm : (next : Kind) (line : ℕ) (o : Open) (b : Blocks) → (next_arm next line (Some o) b).found ≡ None → (is_else o.kind ≡ false) × (next_arm next line (Some o) b ≡ push_block next o.line (leave_innermost b))
divided-calm next line o b h = by (is_else o.kind) h
  where
    by : (v : Bool) → (if v then stray line b else push_block next o.line (leave_innermost b)).found ≡ None → (v ≡ false) × ((if v then stray line b else push_block next o.line (leave_innermost b)) ≡ push_block next o.line (leave_innermost b))
    by true h = absurd (stray-none line b h)
    by false h = (refl, refl)

within-calm : (v : Bool) (x y : Blocks) → (if v then x else y).found ≡ None → (y.found ≡ None → ⊥) → (if v then x else y) ≡ x
within-calm true x y h e = refl
within-calm false x y h e = absurd (e h)

pub part-calm : (next : Kind) (line place : ℕ) (o : Open) (os : List Open) (spans : List Span) (landings : List Landing) (jumps : List Jump) (found : Option Refusal)
    → o.spoiled ≡ false → (part next line (blocks place (o ∷ os) spans landings jumps found)).found ≡ None → Divides next line o (blocks place (o ∷ os) spans landings jumps found)
part-calm next line place o os spans landings jumps found f h =
    let b = blocks place (o ∷ os) spans landings jumps found in
    let x = down_to sought.BlockIf (o ∷ os) b in
    let e = within-calm (within_if (Some o)) (divided_in next line x) (stray line b) h (stray-none line b) in
    let g = sym (ap (λ y. y.found) e) ∙ h in
    let d = down-calm sought.BlockIf (o ∷ os) b f (divided-found next line (first_of x.stack) x g) in
    let c = divided-calm next line o b (sym (ap (λ y. (divided_in next line y).found) d.0) ∙ g) in
    record { is_if = d.1; is_else = c.0; same = e ∙ ap (divided_in next line) d.0 ∙ c.1 }

pub ended-calm : (what : Sought) (within : Bool) (line : ℕ) (b : Blocks) → Fresh b.stack → (end_block what within line b).found ≡ None
    → (end_block what within line b ≡ leave_innermost b) × Fitting what b.stack
ended-calm what within line b f h =
    let x = down_to what b.stack b in
    let e = within-calm within (leave_innermost x) (stray line b) h (stray-none line b) in
    let d = down-calm what b.stack b f (sym (left-found x.stack x) ∙ sym (ap (λ y. y.found) e) ∙ h) in
    (e ∙ ap leave_innermost d.0, d.1)

pub entered-calm : (kind : Kind) (line : ℕ) (b : Blocks) → (enter_block kind line b).found ≡ None → (enter_block kind line b ≡ push_block kind line b) × (b.found ≡ None) × (nat_le 64 (length b.stack) ≡ false)
entered-calm kind line b h =
    let n = none_refused _ _ _ _ h in
    (ap (λ f. push_block kind line (record b { found = f })) (noted-same (nat_le 64 (length b.stack)) line TooDeep b.found h), n.1, n.0)

-- ---- last statements

pub run-same : (l : ℕ) (os : List Open) → ends_one l (first_of os) ≡ false → spoiled_run l os ≡ os
run-same l [] h = refl
run-same l (o ∷ os) h = ap (λ v. if v then spoiled o ∷ spoiled_run l os else o ∷ os) h

abbrev Unspoiled : Blocks → Blocks → Type 0
Unspoiled b x = x.found ≡ None → (b.found ≡ None) × (x ≡ b)

spoil-calm : (l line : ℕ) (b : Blocks) → Unspoiled b (spoil l line b)
spoil-calm l line b h =
    let n = none_refused _ _ _ _ h in (
      n.1,
      ap (λ s. record b { stack = s; found = refuse_if (ends_one l (first_of b.stack)) line BadTerminal b.found }) (run-same l b.stack n.0)
          ∙ ap (λ f. record b { found = f }) (noted-same _ line BadTerminal b.found h),
    )

behind-calm : (l line : ℕ) (os : List Open) (b : Blocks) → b.stack ≡ os → Unspoiled b (spoil_behind l line os b)
behind-calm l line [] b e h = (h, refl)
behind-calm l line (o ∷ os) b e h =
    let n = none_refused _ _ _ _ h in (
      n.1,
      ap (λ s. record b { stack = o ∷ s; found = refuse_if (ends_one l (first_of os)) line BadTerminal b.found }) (run-same l os n.0)
          ∙ ap (λ s. record b { stack = s; found = refuse_if (ends_one l (first_of os)) line BadTerminal b.found }) (sym e)
          ∙ ap (λ f. record b { found = f }) (noted-same _ line BadTerminal b.found h),
    )

within-spoil : (first : Option Open) (l line : ℕ) (b : Blocks) → Unspoiled b (spoil_within first l line b)
within-spoil None l line b h = (h, refl)
within-spoil (Some o) l line b h =
    either (Unspoiled b) (is_if o.kind) (spoil_around l line b) (if o.in_if then b else spoil l line b) (behind-calm l line b.stack b refl)
    (either (Unspoiled b) o.in_if b (spoil l line b) (λ e. (e, refl)) (spoil-calm l line b)) h

pub spoiled-calm : (role : Role) (label : Option ℕ) (line : ℕ) (b : Blocks) → (spoiled_by role label line b).found ≡ None → (b.found ≡ None) × (spoiled_by role label line b ≡ b)
spoiled-calm role None line b h = (h, refl)
spoiled-calm role (Some l) line b h =
    either (Unspoiled b) (is_forbidden role) (spoil l line b) (if is_part role then spoil_part l line b else b) (spoil-calm l line b)
    (either (Unspoiled b) (is_part role) (spoil_part l line b) b (within-spoil (first_of b.stack) l line b) (λ e. (e, refl))) h
