-- What each statement does to the blocks of the code, and the faults that it adds.
use Rattle.std.proofs.Common.{◌≡◌, ℕ, ◌+◌, ◌≤◌, Bool, true, false, List, [], ◌∷◌, ◌++◌, length, nat_le, refl, sym, ap, ap₂, ◌∙◌, subst, arith, le_refl, append-nil}
use Rattle.std.specs.Prelude.{Option, Some, None, not, ◌||◌, if◌then◌else◌}
use Rattle.std.proofs.lemmas.List.{length-map}
use Rattle.fx_lists.specs.declared.code.Code.TheVariants.{UnclosedDo, UnclosedIf, StrayPart, TooDeep}
use Rattle.fx_lists.specs.declared.refusal.Refusal.{Refusal}
use Rattle.f77_structure.specs.declared.mark.Action.{Action}
use Rattle.f77_structure.specs.declared.mark.Action.TheVariants.{Goto, Return, Stop, Other}
use Rattle.f77_structure.specs.declared.mark.Role.{Role}
use Rattle.f77_structure.specs.declared.mark.Role.TheVariants.{Program, Subroutine, Specification, Plain, LogicalIf, BlockIf, ElseIf, Else, EndIf, Do, EndDo, End}
use Rattle.f77_structure.specs.declared.open.Kind.{Kind}
use Rattle.f77_structure.specs.declared.open.Kind.TheVariants as kinds
use Rattle.f77_structure.specs.declared.open.Sought.{Sought}
use Rattle.f77_structure.specs.declared.open.Sought.TheVariants as sought
use Rattle.f77_structure.specs.declared.open.Open.{Open}
use Rattle.f77_structure.specs.declared.blocks.Blocks.{Blocks}
use Rattle.f77_structure.specs.declared.blocks.Landing.{Landing}
use Rattle.f77_structure.specs.Lists.{first_of}
use Rattle.fx_lists.specs.Refusals.{refuse_if}
use Rattle.f77_structure.specs.Marks.{label_by}
use Rattle.f77_structure.specs.Kinds.{ends_at, is_if, is_else, fits}
use Rattle.f77_structure.specs.Nesting.{Block, Going, lists_of, list_of, is_within, innermost, inside, first_divisible, is_divisible, past_label, without, next_list, divide, begin, begins, at_label, blocks_after, label_in_list, going, goings}
use Rattle.f77_structure.specs.Checks.{fault_if, unclosed_all, too_deep, part_faults, end_faults, faults_by, first_among}
use Rattle.f77_structure.specs.Opens.{within_if, within_do}
use Rattle.f77_structure.specs.Blocks.{leave_innermost, left_one, left_from, ended_by, refuse_unclosed, down_to, push_block, enter_block, stray, add_landing, parse_executable, keep_jump}
use Rattle.f77_structure.specs.Steps.{next_arm, divided_in, part, end_block, by_role}
use Rattle.f77_structure.proofs.Stands.{among-append, among-if, within_if-is, within_do-is, Stands, wanted, other_fault, later, left-stands, down-stands, ends-stands, lands-stands, no-jump, jumps-stands, stood-stands, push-stands}
use Rattle.f77_structure.proofs.Shown.{plain, blocks_in}

-- ---- what adds no fault

pub left-found : (os : List Open) (b : Blocks) → (left_from os b).found ≡ b.found
left-found [] b = refl
left-found (o ∷ os) b = refl

if-found : (v : Bool) (b c : Blocks) (found : Option Refusal) → b.found ≡ found → c.found ≡ found → (if v then b else c).found ≡ found
if-found true b c found h e = h
if-found false b c found h e = e

pub ended_by-found : (l : ℕ) (os : List Open) (b : Blocks) → (ended_by l os b).found ≡ b.found
ended_by-found l [] b = refl
ended_by-found l (o ∷ os) b = if-found (ends_at l o.kind) (ended_by l os (left_one o os b)) b b.found (ended_by-found l os (left_one o os b)) refl

pub landed-found : (label : Option ℕ) (b : Blocks) → (add_landing label b).found ≡ b.found
landed-found None b = refl
landed-found (Some l) b = refl

pub stood-found : (label : Option ℕ) (b : Blocks) → (parse_executable label b).found ≡ b.found
unfolding parse_executable
stood-found None b = refl
stood-found (Some l) b = ended_by-found l b.stack (add_landing (Some l) b)

pub jumped-found : (a : Action) (line : ℕ) (b : Blocks) → (keep_jump a line b).found ≡ b.found
jumped-found (Goto l) line b = refl
jumped-found Return line b = refl
jumped-found Stop line b = refl
jumped-found Other line b = refl

-- ---- blocks without their ends

down-by : (v : Bool) (what : Sought) (o : Open) (os : List Open) (b c : Blocks) → c.found ≡ first_among (unclosed_all (inside what (blocks_in os))) (refuse_unclosed o b.found)
    → (if v then b else c).found ≡ first_among (unclosed_all (if v then [] else plain o ∷ inside what (blocks_in os))) b.found
down-by true what o os b c h = refl
down-by false what o os b c h =
    let fault = if is_if o.kind then UnclosedIf else UnclosedDo in
    h
    ∙ sym (ap (first_among (unclosed_all (inside what (blocks_in os)))) (among-if (not o.spoiled) o.line fault b.found))
    ∙ sym (among-append (fault_if (not o.spoiled) o.line fault) (unclosed_all (inside what (blocks_in os))) b.found)

down-found : (what : Sought) (os : List Open) (b : Blocks) → (down_to what os b).found ≡ first_among (unclosed_all (inside what (blocks_in os))) b.found
down-found what [] b = refl
down-found what (o ∷ os) b =
    let d = left_one o os (record b { found = refuse_unclosed o b.found }) in
    down-by (fits what o.kind) what o os b (down_to what os d) (down-found what os d)

ends-by : (v : Bool) (what : Sought) (line : ℕ) (b : Blocks) (os : List Block) → blocks_in b.stack ≡ os
    → (end_block what v line b).found ≡ first_among ((if v then unclosed_all (inside what os) else []) ++ fault_if (not v) line StrayPart) b.found
ends-by true what line b os e =
    let d = down_to what b.stack b in
    left-found d.stack d ∙ down-found what b.stack b ∙ ap (λ qs. first_among (unclosed_all (inside what qs)) b.found) e
    ∙ sym (ap (λ fs. first_among fs b.found) (append-nil (unclosed_all (inside what os))))
ends-by false what line b os e = refl

ends-found : (what : Sought) (within : Bool) (line : ℕ) (b : Blocks) (os : List Block) → blocks_in b.stack ≡ os → within ≡ is_within what os
    → (end_block what within line b).found ≡ first_among (end_faults what line os) b.found
ends-found what within line b os e h =
    ends-by within what line b os e ∙ ap (λ v. first_among ((if v then unclosed_all (inside what os) else []) ++ fault_if (not v) line StrayPart) b.found) h

inside-all : (os : List Block) → inside sought.Neither os ≡ os
inside-all [] = refl
inside-all (o ∷ os) = ap (λ qs. o ∷ qs) (inside-all os)

innermost-none : (os : List Block) → innermost sought.Neither os ≡ []
innermost-none [] = refl
innermost-none (o ∷ os) = innermost-none os

-- ---- a block IF goes on

not-within : (what : Sought) (os : List Block) → is_within what os ≡ false → innermost what os ≡ []
not-within what [] h = refl
not-within what (o ∷ os) h = by (fits what o.kind) h (not-within what os)
  where
    by : (v : Bool) → (v || is_within what os) ≡ false → (is_within what os ≡ false → innermost what os ≡ []) → (if v then o ∷ os else innermost what os) ≡ []
    by true h i = cc
    by false h i = i h

divided-found : (kind : Kind) (line : ℕ) (os : List Open) (b : Blocks)
    → (next_arm kind line (first_of os) b).found ≡ first_among (fault_if (not (first_divisible (blocks_in os))) line StrayPart) b.found
divided-found kind line [] b = refl
divided-found kind line (o ∷ os) b = by (is_else o.kind)
  where
    by : (v : Bool) → (if v then stray line b else push_block kind o.line (leave_innermost b)).found ≡ first_among (fault_if (not (not v)) line StrayPart) b.found
    by true = refl
    by false = left-found b.stack b

module _ (at line : ℕ) (kind : Kind) where
  divided-stands : (qs : List Open) (c : Blocks) (lists : ℕ) (labels : List Landing) (jumps : List Going) → c.stack ≡ qs → Stands at at (at + 1) c (blocks_in qs) lists labels jumps
      → Stands at at (at + 1) (next_arm kind line (first_of qs) c) (next_list kind lists (blocks_in qs)) (if first_divisible (blocks_in qs) then lists + 1 else lists) labels jumps
  divided-stands [] c lists labels jumps e t = other_fault at at (at + 1) c (refuse_if true line StrayPart c.found) [] lists labels jumps t
  divided-stands (o ∷ qs) c lists labels jumps e t = by (is_else o.kind)
    where
      by : (v : Bool) → Stands at at (at + 1) (if v then stray line c else push_block kind o.line (leave_innermost c))
          (if v then blocks_in (o ∷ qs) else begin kind o.line lists (blocks_in qs)) (if not v then lists + 1 else lists) labels jumps
      by true = other_fault at at (at + 1) c (refuse_if true line StrayPart c.found) (blocks_in (o ∷ qs)) lists labels jumps t
      by false =
          push-stands at kind o.line at (leave_innermost c) (blocks_in qs) lists labels jumps (le_refl at)
          (left-stands at at c (blocks_in (o ∷ qs)) lists labels jumps (omega arith) t)

  part-by : (v : Bool) (b : Blocks) (os : List Block) (lists : ℕ) (labels : List Landing) (jumps : List Going) → is_within sought.BlockIf os ≡ v → Stands at at (at + 1) b os lists labels jumps
      → Stands at at (at + 1) (if v then divided_in kind line (down_to sought.BlockIf b.stack b) else stray line b)
      (if v then next_list kind lists (innermost sought.BlockIf os) else os) (if is_divisible os then lists + 1 else lists) labels jumps
  part-by true b os lists labels jumps e t =
      let c = down_to sought.BlockIf b.stack b in
      let u = down-stands at sought.BlockIf at b os lists labels jumps (omega arith) t in
      let here = wanted at at (at + 1) c (innermost sought.BlockIf os) (blocks_in c.stack) lists labels jumps (sym u.blocks) u in
      let P : List Block → Type 0 = λ qs. Stands at at (at + 1) (divided_in kind line c) (next_list kind lists qs) (if first_divisible qs then lists + 1 else lists) labels jumps in
      subst P u.blocks (divided-stands c.stack c lists labels jumps refl here)
  part-by false b os lists labels jumps e t =
      let P : List Block → Type 0 = λ qs. Stands at at (at + 1) (stray line b) os (if first_divisible qs then lists + 1 else lists) labels jumps in
      subst P (sym (not-within sought.BlockIf os e)) (other_fault at at (at + 1) b (refuse_if true line StrayPart b.found) os lists labels jumps t)

  part-stands : (b : Blocks) (os : List Block) (lists : ℕ) (labels : List Landing) (jumps : List Going) → Stands at at (at + 1) b os lists labels jumps
      → Stands at at (at + 1) (part kind line b) (divide kind lists os) (if is_divisible os then lists + 1 else lists) labels jumps
  part-stands b os lists labels jumps t =
      let x = down_to sought.BlockIf b.stack b in
      let within : within_if (first_of b.stack) ≡ is_within sought.BlockIf os = within_if-is b.stack t.cached ∙ ap (is_within sought.BlockIf) t.blocks in
      let P : Bool → Type 0 = λ v. Stands at at (at + 1) (if v then divided_in kind line x else stray line b) (divide kind lists os) (if is_divisible os then lists + 1 else lists) labels jumps in
      subst P (sym within) (part-by (is_within sought.BlockIf os) b os lists labels jumps refl t)

part-found-by : (v : Bool) (kind : Kind) (line : ℕ) (b : Blocks) (os : List Block) → is_within sought.BlockIf os ≡ v → blocks_in b.stack ≡ os → blocks_in (down_to sought.BlockIf b.stack b).stack ≡ innermost sought.BlockIf os
    → (if v then divided_in kind line (down_to sought.BlockIf b.stack b) else stray line b).found
    ≡ first_among ((if v then unclosed_all (inside sought.BlockIf os) else []) ++ fault_if (not (is_divisible os)) line StrayPart) b.found
part-found-by true kind line b os h e i =
    let c = down_to sought.BlockIf b.stack b in
    let fs = unclosed_all (inside sought.BlockIf os) in
    let stray_if = fault_if (not (is_divisible os)) line StrayPart in
    divided-found kind line c.stack c
    ∙ ap (λ qs. first_among (fault_if (not (first_divisible qs)) line StrayPart) c.found) i
    ∙ ap (first_among stray_if) (down-found sought.BlockIf b.stack b ∙ ap (λ qs. first_among (unclosed_all (inside sought.BlockIf qs)) b.found) e)
    ∙ sym (among-append fs stray_if b.found)
part-found-by false kind line b os h e i = sym (ap (λ qs. first_among (fault_if (not (first_divisible qs)) line StrayPart) b.found) (not-within sought.BlockIf os h))

-- ---- each statement

pub record Does (at : ℕ) (b c : Blocks) (role : Role) (label : Option ℕ) (line : ℕ) (os : List Block) (lists : ℕ) (labels : List Landing) (jumps : List Going) : Type 0 where
  pub stands : Stands at (at + 1) (at + 1) c (blocks_after role label line lists os) (if begins role os then lists + 1 else lists)
      (labels ++ label_in_list (label_by role label) (list_of (at_label role os))) (jumps ++ goings role line (lists_of os))
  pub found : c.found ≡ first_among (faults_by role label line os) b.found

module _ (at line : ℕ) (b : Blocks) (os : List Block) (lists : ℕ) (labels : List Landing) (jumps : List Going) (t : Stands at at at b os lists labels jumps) where
  now : Stands at (at + 1) (at + 1) b os lists labels jumps
  now = later at at at (at + 1) (at + 1) b os lists labels jumps (omega arith) (omega arith) t

  begun : Stands at at (at + 1) b os lists labels jumps
  begun = later at at at at (at + 1) b os lists labels jumps (le_refl at) (omega arith) t

  nothing-more : (n : ℕ) (c : Blocks) (qs : List Block) (k : ℕ) → n ≤ at + 1 → Stands at n (at + 1) c qs k labels jumps → Stands at (at + 1) (at + 1) c qs k (labels ++ []) (jumps ++ [])
  nothing-more n c qs k l u = no-jump at (at + 1) (at + 1) c qs k (labels ++ []) jumps (lands-stands at None (at + 1) (at + 1) c qs k labels jumps (later at n (at + 1) (at + 1) (at + 1) c qs k labels jumps l (le_refl (at + 1)) u))

  simply : (label : Option ℕ) (a : Action) → Stands at (at + 1) (at + 1) (parse_executable label (keep_jump a line b)) (past_label label os) lists (labels ++ label_in_list label (list_of os)) (jumps ++ going a line (lists_of os))
  simply label a = stood-stands at label (keep_jump a line b) os lists labels (jumps ++ going a line (lists_of os)) (jumps-stands at a line b os lists labels jumps t)

  simply-found : (label : Option ℕ) (a : Action) → (parse_executable label (keep_jump a line b)).found ≡ b.found
  simply-found label a = stood-found label (keep_jump a line b) ∙ jumped-found a line b

  enters : (kind : Kind) (label : Option ℕ)
      → Stands at (at + 1) (at + 1) (enter_block kind line (add_landing label b)) (begin kind line lists os) (lists + 1) (labels ++ label_in_list label (list_of os)) (jumps ++ [])
  enters kind label =
      let c = add_landing label b in
      let more = labels ++ label_in_list label (list_of os) in
      let found = refuse_if (nat_le 64 (length c.stack)) line TooDeep c.found in
      let d = record c { found = found } in
      let u = other_fault at at (at + 1) c found os lists more jumps (lands-stands at label at (at + 1) b os lists labels jumps begun) in
      let p = push-stands at kind line at d os lists more jumps (le_refl at) u in
      no-jump at (at + 1) (at + 1) (push_block kind line d) (begin kind line lists os) (lists + 1) more jumps
      (later at at (at + 1) (at + 1) (at + 1) (push_block kind line d) (begin kind line lists os) (lists + 1) more jumps (omega arith) (le_refl (at + 1)) p)

  landed-stack : (label : Option ℕ) → (add_landing label b).stack ≡ b.stack
  landed-stack None = refl
  landed-stack (Some l) = refl

  enters-found : (kind : Kind) (label : Option ℕ) → (enter_block kind line (add_landing label b)).found ≡ first_among (too_deep line os) b.found
  enters-found kind label =
      let deep : length (add_landing label b).stack ≡ length os = ap length (landed-stack label) ∙ sym (length-map b.stack plain) ∙ ap length t.blocks in
      ap₂ (λ k found. refuse_if (nat_le 64 k) line TooDeep found) deep (landed-found label b) ∙ sym (among-if (nat_le 64 (length os)) line TooDeep b.found)

  parts : (kind : Kind) → Stands at (at + 1) (at + 1) (part kind line b) (divide kind lists os) (if is_divisible os then lists + 1 else lists) (labels ++ []) (jumps ++ [])
  parts kind = nothing-more at (part kind line b) (divide kind lists os) (if is_divisible os then lists + 1 else lists) (omega arith) (part-stands at line kind b os lists labels jumps begun)

  parts-found : (kind : Kind) → (part kind line b).found ≡ first_among (part_faults line os) b.found
  parts-found kind =
      let x = down_to sought.BlockIf b.stack b in
      let u = down-stands at sought.BlockIf at b os lists labels jumps (omega arith) begun in
      let within : within_if (first_of b.stack) ≡ is_within sought.BlockIf os = within_if-is b.stack t.cached ∙ ap (is_within sought.BlockIf) t.blocks in
      ap (λ v. (if v then divided_in kind line x else stray line b).found) within
      ∙ part-found-by (is_within sought.BlockIf os) kind line b os refl t.blocks u.blocks

  pub role-does : (role : Role) (label : Option ℕ) → Does at b (by_role role label line b) role label line os lists labels jumps
  role-does Program label = record { stands = nothing-more (at + 1) b os lists (le_refl (at + 1)) now; found = refl }
  role-does Subroutine label = record { stands = nothing-more (at + 1) b os lists (le_refl (at + 1)) now; found = refl }
  role-does Specification label = record { stands = nothing-more (at + 1) b os lists (le_refl (at + 1)) now; found = refl }
  role-does (Plain a) label = record { stands = simply label a; found = simply-found label a }
  role-does (LogicalIf a) label = record { stands = simply label a; found = simply-found label a }
  role-does BlockIf label = record { stands = enters kinds.If label; found = enters-found kinds.If label }
  role-does (Do k) label = record { stands = enters (kinds.Do k) label; found = enters-found (kinds.Do k) label }
  role-does ElseIf label = record { stands = parts kinds.If; found = parts-found kinds.If }
  role-does Else label = record { stands = parts kinds.Else; found = parts-found kinds.Else }
  role-does EndIf label =
      let within = within_if (first_of b.stack) in
      let same : within ≡ is_within sought.BlockIf os = within_if-is b.stack t.cached ∙ ap (is_within sought.BlockIf) t.blocks in
      let c = end_block sought.BlockIf within line b in
      let u = ends-stands at sought.BlockIf within line b os lists labels jumps same now in
      let rest = without sought.BlockIf os in
      let more = labels ++ label_in_list label (list_of rest) in
      record {
        stands = no-jump at (at + 1) (at + 1) (parse_executable label c) (past_label label rest) lists more jumps (stood-stands at label c rest lists labels jumps u);
        found = stood-found label c ∙ ends-found sought.BlockIf within line b os t.blocks same;
      }
  role-does EndDo label =
      let c = parse_executable label b in
      let rest = past_label label os in
      let more = labels ++ label_in_list label (list_of os) in
      let u = stood-stands at label b os lists labels jumps now in
      let within = within_do (first_of c.stack) in
      let same : within ≡ is_within sought.PlainDo rest = within_do-is c.stack u.cached ∙ ap (is_within sought.PlainDo) u.blocks in
      record {
        stands = no-jump at (at + 1) (at + 1) (end_block sought.PlainDo within line c) (without sought.PlainDo rest) lists more jumps (ends-stands at sought.PlainDo within line c rest lists more jumps same u);
        found = ends-found sought.PlainDo within line c rest u.blocks same ∙ ap (first_among (end_faults sought.PlainDo line rest)) (stood-found label b);
      }
  role-does End label =
      let c = parse_executable label b in
      let rest = past_label label os in
      let more = labels ++ label_in_list label (list_of os) in
      let u = stood-stands at label b os lists labels jumps now in
      let d = down_to sought.Neither c.stack c in
      record {
        stands = no-jump at (at + 1) (at + 1) d [] lists more jumps
            (wanted at (at + 1) (at + 1) d (innermost sought.Neither rest) [] lists more jumps (innermost-none rest) (down-stands at sought.Neither (at + 1) c rest lists more jumps (le_refl (at + 1)) u));
        found = down-found sought.Neither c.stack c
            ∙ ap (λ qs. first_among (unclosed_all (inside sought.Neither qs)) c.found) u.blocks
            ∙ ap (λ qs. first_among (unclosed_all qs) c.found) (inside-all rest)
            ∙ ap (first_among (unclosed_all rest)) (stood-found label b);
      }
