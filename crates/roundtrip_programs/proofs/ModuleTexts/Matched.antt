-- The open blocks of a module that is built are those of its structure.
use Rattle.std.proofs.Common.{◌≡◌, ℕ, Bool, true, false, List, [], ◌∷◌, refl, sym, ap, ◌∙◌, subst}
use Rattle.std.specs.Prelude.{Option, Some, None, if◌then◌else◌}
use Rattle.f77_ast.specs.Trees.{ExprTree, continue}
use Rattle.f77_statements.specs.Phrases.{PhraseTree, program, subroutine, function, specification, simple, logical_if, block_if, else_if, else_part, end_if, do_head, while_head, end_do, end_module}
use Rattle.f77_structure.specs.declared.mark.Action.{Action}
use Rattle.f77_structure.specs.declared.open.Kind.{Kind}
use Rattle.f77_structure.specs.declared.open.Kind.TheVariants.{Do, If, Else}
use Rattle.f77_structure.specs.declared.open.Sought.{Sought}
use Rattle.f77_structure.specs.declared.open.Sought.TheVariants as sought
use Rattle.f77_structure.specs.declared.open.Open.{Open}
use Rattle.f77_structure.specs.declared.blocks.Blocks.{Blocks}
use Rattle.f77_structure.specs.Lists.{first_of}
use Rattle.f77_structure.specs.Opens.{ends_at, is_if, within_if, within_do}
use Rattle.f77_structure.specs.Opens as opens
use Rattle.f77_structure.specs.Blocks as steps
use Rattle.f77_structure.specs.Blocks.{leave_innermost, add_landing, parse_executable, keep_jump}
use Rattle.f77_structure.specs.Steps.{is_else, part, end_block, by_role}
use Rattle.f77_parser.specs.Roles.{role_of, action_of}
use Rattle.f77_parser.specs.SoFar.{OpeningTree, opening_loop, opening_while, branches, AroundTree, SoFar, add_spot, add_executable, add_logical_if, open_block, add_while, leave_block, is_label, is_loop_to, leave_loops, end_loops_at, close_innermost, close_block}
use Rattle.f77_parser.specs.Building.{close_arm, divide_innermost, add_continue, add_phrase}
use Rattle.roundtrip_programs.proofs.ModuleTexts.Calm.{Fresh, Fitting, true-false, part-none, part-calm, ended-calm, down-calm, stood-found, jumped-stack, landed-stack}
use Rattle.roundtrip_programs.proofs.ModuleTexts.Counted.{IsOpenIf, Divisible, Allowed}

abbrev pub kind_of : OpeningTree → Kind
kind_of (opening_loop d) = Do d.label
kind_of (opening_while l e) = Do l
kind_of (branches arms (Some test)) = If
kind_of (branches arms None) = Else

-- the same blocks, and no DO has had a bad end
abbrev pub Matches : List AroundTree → List Open → Type 0
Matches [] [] = Unit {0}
Matches [] (o ∷ os) = ⊥
Matches (a ∷ xs) [] = ⊥
Matches (a ∷ xs) (o ∷ os) = record { kind : kind_of a.opening ≡ o.kind; fresh : o.spoiled ≡ false; outer : Matches xs os }

pub fresh-matched : (xs : List AroundTree) (os : List Open) → Matches xs os → Fresh os
fresh-matched xs [] m = tt
fresh-matched [] (o ∷ os) m = absurd m
fresh-matched (a ∷ xs) (o ∷ os) m = m.fresh

label-same : (l : ℕ) (t : Option ℕ) → is_label l t ≡ opens.is_label l t
label-same l None = refl
label-same l (Some m) = refl

pub loop-same : (l : ℕ) (o : OpeningTree) → is_loop_to l o ≡ ends_at l (kind_of o)
loop-same l (opening_loop d) = label-same l d.label
loop-same l (opening_while m e) = label-same l m
loop-same l (branches arms (Some test)) = refl
loop-same l (branches arms None) = refl

both-if : (v w : Bool) (x y : SoFar) (b c : Blocks) → v ≡ w → Matches x.around b.stack → Matches y.around c.stack
    → Matches (if v then x else y).around (if w then b else c).stack
both-if true true x y b c e m n = m
both-if false false x y b c e m n = n
both-if true false x y b c e m n = absurd (true-false e)
both-if false true x y b c e m n = absurd (true-false (sym e))

pub on-stack : (xs : List AroundTree) (x y : List Open) → x ≡ y → Matches xs x → Matches xs y
on-stack xs x y e m = let P : List Open → Type 0 = λ s. Matches xs s in subst P e m

on-around : (os : List Open) (x y : List AroundTree) → x ≡ y → Matches x os → Matches y os
on-around os x y e m = let P : List AroundTree → Type 0 = λ s. Matches s os in subst P e m

ended_by-matched : (l : ℕ) (xs : List AroundTree) (os : List Open) (p : SoFar) (b : Blocks) → p.around ≡ xs → b.stack ≡ os → Matches xs os
    → Matches (leave_loops l xs p).around (steps.ended_by l os b).stack
ended_by-matched l [] [] p b e f m = on-around b.stack [] p.around (sym e) (on-stack [] [] b.stack (sym f) m)
ended_by-matched l [] (o ∷ os) p b e f m = absurd m
ended_by-matched l (a ∷ xs) [] p b e f m = absurd m
ended_by-matched l (a ∷ xs) (o ∷ os) p b e f m =
    both-if (is_loop_to l a.opening) (ends_at l o.kind) (leave_loops l xs (leave_block a xs p)) p (steps.ended_by l os (steps.left_one o os b)) b
    (loop-same l a.opening ∙ ap (ends_at l) m.kind)
    (ended_by-matched l xs os (leave_block a xs p) (steps.left_one o os b) refl refl m.outer)
    (on-around b.stack (a ∷ xs) p.around (sym e) (on-stack (a ∷ xs) (o ∷ os) b.stack (sym f) m))

-- a statement that stands in the open list, and ends the DOs to its label
pub stood-matched : (label : Option ℕ) (p : SoFar) (b : Blocks) → Matches p.around b.stack → Matches (end_loops_at label p).around (parse_executable label b).stack
unfolding parse_executable
stood-matched None p b m = m
stood-matched (Some l) p b m = ended_by-matched l p.around b.stack p (add_landing (Some l) b) refl refl m

pub continued-matched : (f l : ℕ) (cs : List (List ℕ)) (p : SoFar) (b : Blocks) → Matches p.around b.stack → Matches (add_continue f l cs p).around (parse_executable (Some l) b).stack
unfolding add_executable add_spot
continued-matched f l cs p b m = stood-matched (Some l) (add_executable f (Some l) cs continue p) b m

closed-from-matched : (xs : List AroundTree) (os : List Open) (f : ℕ) (cs : List (List ℕ)) (p : SoFar) (b : Blocks) → p.around ≡ xs → b.stack ≡ os → Matches xs os
    → Matches (close_innermost xs f cs p).around (steps.left_from os b).stack
unfolding add_spot
closed-from-matched [] [] f cs p b e g m = on-around b.stack [] p.around (sym e) (on-stack [] [] b.stack (sym g) m)
closed-from-matched [] (o ∷ os) f cs p b e g m = absurd m
closed-from-matched (a ∷ xs) [] f cs p b e g m = absurd m
closed-from-matched (a ∷ xs) (o ∷ os) f cs p b e g m = m.outer

pub closed-matched : (what : Sought) (within : Bool) (line f : ℕ) (cs : List (List ℕ)) (p : SoFar) (b : Blocks) → Matches p.around b.stack
    → (end_block what within line b).found ≡ None → Matches (close_block f cs p).around (end_block what within line b).stack
closed-matched what within line f cs p b m h =
    let c = ended-calm what within line b (fresh-matched p.around b.stack m) h in
    on-stack (close_block f cs p).around (leave_innermost b).stack (end_block what within line b).stack (ap (λ x. x.stack) (sym c.0))
    (closed-from-matched p.around b.stack f cs p b refl refl m)

entered-matched : (kind : Kind) (line f : ℕ) (label : Option ℕ) (cs : List (List ℕ)) (o : OpeningTree) (p : SoFar) (b : Blocks) → kind_of o ≡ kind → Matches p.around b.stack
    → Matches (open_block f label cs o p).around (steps.enter_block kind line (add_landing label b)).stack
unfolding open_block add_spot
entered-matched kind line f label cs o p b e m = record { kind = e; fresh = refl; outer = on-stack p.around b.stack (add_landing label b).stack (sym (landed-stack label b)) m }

-- ---- parts

open-if : (o : OpeningTree) (k : Kind) → kind_of o ≡ k → is_if k ≡ true → is_else k ≡ false → IsOpenIf o
open-if (opening_loop d) k e i n = let x : is_if k ≡ false = ap is_if (sym e) in true-false (sym i ∙ x)
open-if (opening_while l t) k e i n = let x : is_if k ≡ false = ap is_if (sym e) in true-false (sym i ∙ x)
open-if (branches arms (Some test)) k e i n = tt
open-if (branches arms None) k e i n = let x : is_else k ≡ true = ap is_else (sym e) in true-false (sym x ∙ n)

pub record Divided (next : Kind) (line f : ℕ) (cs : List (List ℕ)) (test : Option ExprTree) (xs : List AroundTree) (p : SoFar) (b : Blocks) : Type 0 where
  pub may : Divisible xs
  pub matched : Matches (divide_innermost xs f cs test p).around (part next line b).stack

abbrev next_kind : Option ExprTree → Kind
next_kind None = Else
next_kind (Some test) = If

next-same : (arms : _) (test : Option ExprTree) → kind_of (branches arms test) ≡ next_kind test
next-same arms None = refl
next-same arms (Some test) = refl

divided-matched : (line f : ℕ) (cs : List (List ℕ)) (test : Option ExprTree) (xs : List AroundTree) (os : List Open) (p : SoFar) (b : Blocks) → b.stack ≡ os → Matches xs os
    → (part (next_kind test) line b).found ≡ None → Divided (next_kind test) line f cs test xs p b
unfolding add_spot
divided-matched line f cs test [] [] p b e m h = absurd (part-none (next_kind test) line b e h)
divided-matched line f cs test [] (o ∷ os) p b e m h = absurd m
divided-matched line f cs test (a ∷ xs) [] p b e m h = absurd m
divided-matched line f cs test (a ∷ xs) (o ∷ os) p b e m h =
    let c = record b { stack = o ∷ os } in
    let same : c ≡ b = ap (λ s. record b { stack = s }) (sym e) in
    let d = part-calm (next_kind test) line b.place o os b.spans b.landings b.jumps b.found m.fresh (ap (λ x. (part (next_kind test) line x).found) same ∙ h) in
    let out = (divide_innermost (a ∷ xs) f cs test p).around in
    let now = (steps.push_block (next_kind test) o.line (leave_innermost c)).stack in
    record {
      may = open-if a.opening o.kind m.kind d.is_if d.is_else;
      matched = on-stack out now (part (next_kind test) line b).stack (sym (ap (λ x. x.stack) d.same) ∙ ap (λ x. (part (next_kind test) line x).stack) same)
          (record { kind = next-same (close_arm a.opening p.list) test; fresh = refl; outer = m.outer });
    }

-- ---- each statement

pub record Turned (f : ℕ) (label : Option ℕ) (cs : List (List ℕ)) (phrase : PhraseTree) (line : ℕ) (p : SoFar) (b : Blocks) : Type 0 where
  pub may : Allowed phrase p.around
  pub matched : Matches (add_phrase f label cs phrase p).around (by_role (role_of phrase) label line b).stack

simply-matched : (label : Option ℕ) (a : Action) (line : ℕ) (p : SoFar) (b : Blocks) → Matches p.around b.stack → Matches (end_loops_at label p).around (parse_executable label (keep_jump a line b)).stack
simply-matched label a line p b m = stood-matched label p (keep_jump a line b) (on-stack p.around b.stack (keep_jump a line b).stack (sym (jumped-stack a line b)) m)

-- nothing is open at the end
closed-none : (xs : List AroundTree) (os : List Open) → Matches xs os → Fitting sought.Neither os → xs ≡ []
closed-none [] os m f = refl
closed-none (a ∷ xs) [] m f = absurd m
closed-none (a ∷ xs) (o ∷ os) m f = absurd (true-false (sym f))

pub module-closed : (p : SoFar) (b : Blocks) → Matches p.around b.stack → (steps.down_to sought.Neither b.stack b).found ≡ None → (p.around ≡ []) × (steps.down_to sought.Neither b.stack b ≡ b)
module-closed p b m h =
    let d = down-calm sought.Neither b.stack b (fresh-matched p.around b.stack m) h in (closed-none p.around b.stack m d.1, d.0)

module-matched : (p : SoFar) (b : Blocks) → Matches p.around b.stack → (steps.down_to sought.Neither b.stack b).found ≡ None → Matches p.around (steps.down_to sought.Neither b.stack b).stack
module-matched p b m h = on-stack p.around b.stack _ (ap (λ x. x.stack) (sym (module-closed p b m h).1)) m

pub phrase-matched : (f : ℕ) (label : Option ℕ) (cs : List (List ℕ)) (phrase : PhraseTree) (line : ℕ) (p : SoFar) (b : Blocks) → Matches p.around b.stack
    → (by_role (role_of phrase) label line b).found ≡ None → Turned f label cs phrase line p b
unfolding add_spot add_executable add_logical_if add_while
phrase-matched f label cs (program n) line p b m h = record { may = tt; matched = m }
phrase-matched f label cs (subroutine n ds) line p b m h = record { may = tt; matched = m }
phrase-matched f label cs (function form n ds) line p b m h = record { may = tt; matched = m }
phrase-matched f label cs (specification d) line p b m h = record { may = tt; matched = m }
phrase-matched f label cs (simple w) line p b m h = record { may = tt; matched = simply-matched label (action_of w) line (add_executable f label cs w p) b m }
phrase-matched f label cs (logical_if e w) line p b m h = record { may = tt; matched = simply-matched label (action_of w) line (add_logical_if f label cs e w p) b m }
phrase-matched f label cs (block_if e) line p b m h = record { may = tt; matched = entered-matched If line f label cs (branches [] (Some e)) p b refl m }
phrase-matched f label cs (else_if e) line p b m h =
    let d = divided-matched line f cs (Some e) p.around b.stack p b refl m h in record { may = d.may; matched = d.matched }
phrase-matched f label cs else_part line p b m h =
    let d = divided-matched line f cs None p.around b.stack p b refl m h in record { may = d.may; matched = d.matched }
phrase-matched f None cs end_if line p b m h =
    let x = end_block sought.BlockIf (within_if (first_of b.stack)) line b in
    record { may = tt; matched = stood-matched None (close_block f cs p) x (closed-matched sought.BlockIf (within_if (first_of b.stack)) line f cs p b m (sym (stood-found None x) ∙ h)) }
phrase-matched f (Some l) cs end_if line p b m h =
    let x = end_block sought.BlockIf (within_if (first_of b.stack)) line b in
    record { may = tt; matched = continued-matched f l [] (close_block f cs p) x (closed-matched sought.BlockIf (within_if (first_of b.stack)) line f cs p b m (sym (stood-found (Some l) x) ∙ h)) }
phrase-matched f label cs (do_head d) line p b m h = record { may = tt; matched = entered-matched (Do d.label) line f label cs (opening_loop d) p b refl m }
phrase-matched f label cs (while_head l e) line p b m h = record { may = tt; matched = entered-matched (Do l) line f label cs (opening_while l e) (add_while p) b refl m }
phrase-matched f None cs end_do line p b m h =
    let x = parse_executable None b in
    record { may = tt; matched = closed-matched sought.PlainDo (within_do (first_of x.stack)) line f cs p x (stood-matched None p b m) h }
phrase-matched f (Some l) cs end_do line p b m h =
    let x = parse_executable (Some l) b in
    record { may = tt; matched = closed-matched sought.PlainDo (within_do (first_of x.stack)) line f [] (add_continue f l cs p) x (continued-matched f l cs p b m) h }
phrase-matched f None cs end_module line p b m h = record { may = tt; matched = module-matched p (parse_executable None b) (stood-matched None p b m) h }
phrase-matched f (Some l) cs end_module line p b m h =
    record { may = tt; matched = module-matched (add_continue f l cs p) (parse_executable (Some l) b) (continued-matched f l cs p b m) h }
