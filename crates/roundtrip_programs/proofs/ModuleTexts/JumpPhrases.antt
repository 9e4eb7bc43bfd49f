-- Each statement changes the blocks and what is built of the module by one outline.
use Rattle.std.proofs.Common.{◌≡◌, ℕ, ◌+◌, ◌≤◌, Bool, true, false, List, [], ◌∷◌, refl, sym, ap, ◌∙◌, arith, le_refl}
use Rattle.std.specs.Prelude.{Option, Some, None, if◌then◌else◌}
use Rattle.f77_ast.specs.Trees.{ExprTree, continue}
use Rattle.f77_statements.specs.Phrases.{PhraseTree, program, subroutine, function, specification, simple, logical_if, block_if, else_if, else_part, end_if, do_head, while_head, end_do, end_module}
use Rattle.f77_structure.specs.declared.mark.Action.{Action}
use Rattle.f77_structure.specs.declared.open.Kind.{Kind}
use Rattle.f77_structure.specs.declared.open.Kind.TheVariants.{Do, If, Else}
use Rattle.f77_structure.specs.declared.open.Sought.{Sought}
use Rattle.f77_structure.specs.declared.open.Sought.TheVariants as sought
use Rattle.f77_structure.specs.declared.open.Open.{Open}
use Rattle.f77_structure.specs.declared.blocks.Blocks.{Blocks}
use Rattle.f77_structure.specs.Lists.{first_of}
use Rattle.f77_structure.specs.Opens.{ends_at, within_if, within_do}
use Rattle.f77_structure.specs.Blocks as steps
use Rattle.f77_structure.specs.Blocks.{leave_innermost, push_block, add_landing, parse_executable, keep_jump}
use Rattle.f77_structure.specs.Steps.{part, end_block, by_role}
use Rattle.f77_parser.specs.Roles.{role_of, action_of}
use Rattle.f77_parser.specs.SoFar.{AroundTree, SoFar, add_spot, add_executable, add_logical_if, open_block, add_while, leave_block, is_loop_to, leave_loops, end_loops_at, close_innermost, close_block}
use Rattle.f77_parser.specs.Building.{divide_innermost, add_continue, add_phrase}
use Rattle.roundtrip_programs.proofs.ModuleTexts.Calm.{true-false, part-calm, ended-calm, entered-calm, stood-found, jumped-stack}
use Rattle.roundtrip_programs.proofs.ModuleTexts.Counted.{Divisible}
use Rattle.roundtrip_programs.proofs.ModuleTexts.Matched.{Matches, fresh-matched, loop-same, on-stack, stood-matched, continued-matched, closed-matched, module-closed, phrase-matched}
use Rattle.roundtrip_programs.proofs.ModuleTexts.Outlines.{Outline, lands, goes, begins, leaves}
use Rattle.roundtrip_programs.proofs.ModuleTexts.SoFarOutlines.{outline_with, outline_so, left-outline, next-outline, StandsAlone, stated-outline, conditioned-outline}
use Rattle.roundtrip_programs.proofs.ModuleTexts.Shown.{ShowsIn, Before, Shows}
use Rattle.roundtrip_programs.proofs.ModuleTexts.JumpStanding.{later, begun, at-blocks, at-outline, lands-shown, goes-shown, leaves-shown, begins-shown}
use Rattle.roundtrip_programs.proofs.ModuleTexts.JumpStanding as standing

-- the blocks show the outline of what is so far, a GO TO of the statement at the place among them
abbrev pub Stands : ℕ → Blocks → SoFar → Type 0
Stands at b p = Shows at (at + 1) b (outline_so p)

either-stands : (at : ℕ) (v w : Bool) (b c : Blocks) (p q : SoFar) → v ≡ w → Stands at b p → Stands at c q → Stands at (if w then b else c) (if v then p else q)
either-stands at true true b c p q e h k = h
either-stands at false false b c p q e h k = k
either-stands at true false b c p q e h k = absurd (true-false e)
either-stands at false true b c p q e h k = absurd (true-false (sym e))

-- with the open blocks as they are
at-open : (at n : ℕ) (xs : List AroundTree) (os : List Open) (p : SoFar) (b : Blocks) → p.around ≡ xs → b.stack ≡ os → ShowsIn os at n (at + 1) b (outline_with xs p)
    → Shows at n b (outline_so p)
at-open at n xs os p b e f s =
    at-outline b.stack at n (at + 1) b (outline_with xs p) (outline_so p) (ap (λ ys. outline_with ys p) (sym e))
    (standing.on-stack os b.stack at n (at + 1) b (outline_with xs p) (sym f) s)

left-stands : (at n : ℕ) (a : AroundTree) (xs : List AroundTree) (o : Open) (os : List Open) (p : SoFar) (b : Blocks) → n ≤ at + 1 → ShowsIn (o ∷ os) at n (at + 1) b (outline_with (a ∷ xs) p)
    → Shows at n (steps.left_one o os b) (outline_so (leave_block a xs p))
left-stands at n a xs o os p b l s =
    at-outline os at n (at + 1) (steps.left_one o os b) (leaves (outline_with (a ∷ xs) p)) (outline_so (leave_block a xs p)) (sym (left-outline a xs p))
    (leaves-shown o os at n b (outline_with (a ∷ xs) p) l s)

ended_by-stands : (at l : ℕ) (xs : List AroundTree) (os : List Open) (p : SoFar) (b : Blocks) → p.around ≡ xs → b.stack ≡ os → Matches xs os
    → ShowsIn os at (at + 1) (at + 1) b (outline_with xs p) → Stands at (steps.ended_by l os b) (leave_loops l xs p)
ended_by-stands at l [] [] p b e f m s = at-open at (at + 1) [] [] p b e f s
ended_by-stands at l [] (o ∷ os) p b e f m s = absurd m
ended_by-stands at l (a ∷ xs) [] p b e f m s = absurd m
ended_by-stands at l (a ∷ xs) (o ∷ os) p b e f m s =
    either-stands at (is_loop_to l a.opening) (ends_at l o.kind) (steps.ended_by l os (steps.left_one o os b)) b (leave_loops l xs (leave_block a xs p)) p
    (loop-same l a.opening ∙ ap (ends_at l) m.kind)
    (ended_by-stands at l xs os (leave_block a xs p) (steps.left_one o os b) refl refl m.outer (left-stands at (at + 1) a xs o os p b (le_refl (at + 1)) s))
    (at-open at (at + 1) (a ∷ xs) (o ∷ os) p b e f s)

-- a statement stands in the open list, and ends the DOs to its label
stood-stands : (at : ℕ) (label : Option ℕ) (p : SoFar) (b : Blocks) (x : Outline) → Matches p.around b.stack → outline_so p ≡ lands label x → Shows at (at + 1) b x
    → Stands at (parse_executable label b) (end_loops_at label p)
unfolding parse_executable
stood-stands at None p b x m e s = at-outline b.stack at (at + 1) (at + 1) b x (outline_so p) (sym e) s
stood-stands at (Some l) p b x m e s =
    let c = add_landing (Some l) b in
    ended_by-stands at l p.around b.stack p c refl refl m
    (at-outline b.stack at (at + 1) (at + 1) c (lands (Some l) x) (outline_so p) (sym e) (lands-shown (Some l) at (at + 1) (at + 1) b x s))

simply-stands : (at : ℕ) (label : Option ℕ) (a : Action) (line : ℕ) (p q : SoFar) (b : Blocks) → Matches q.around b.stack → outline_so q ≡ lands label (goes a (outline_so p))
    → Before at b (outline_so p) → Stands at (parse_executable label (keep_jump a line b)) (end_loops_at label q)
simply-stands at label a line p q b m e s =
    let c = keep_jump a line b in
    stood-stands at label q c (goes a (outline_so p)) (on-stack q.around b.stack c.stack (sym (jumped-stack a line b)) m) e
    (standing.on-stack b.stack c.stack at (at + 1) (at + 1) c (goes a (outline_so p)) (sym (jumped-stack a line b)) (goes-shown a line at b (outline_so p) s))

continued-stands : (at f l : ℕ) (cs : List (List ℕ)) (p : SoFar) (b : Blocks) → Matches p.around b.stack → Stands at b p → Stands at (parse_executable (Some l) b) (add_continue f l cs p)
unfolding add_executable add_spot
continued-stands at f l cs p b m s =
    stood-stands at (Some l) (add_executable f (Some l) cs continue p) b (outline_so p) m (stated-outline f (Some l) cs continue p (λ label o. refl)) s

-- ---- blocks

closed-from-stands : (at f : ℕ) (cs : List (List ℕ)) (xs : List AroundTree) (os : List Open) (p : SoFar) (b : Blocks) → p.around ≡ xs → b.stack ≡ os → Matches xs os
    → ShowsIn os at (at + 1) (at + 1) b (outline_with xs p) → Stands at (steps.left_from os b) (close_innermost xs f cs p)
unfolding add_spot
closed-from-stands at f cs [] [] p b e g m s = at-open at (at + 1) [] [] p b e g s
closed-from-stands at f cs [] (o ∷ os) p b e g m s = absurd m
closed-from-stands at f cs (a ∷ xs) [] p b e g m s = absurd m
closed-from-stands at f cs (a ∷ xs) (o ∷ os) p b e g m s = left-stands at (at + 1) a xs o os p b (le_refl (at + 1)) s

closed-stands : (at : ℕ) (what : Sought) (within : Bool) (line f : ℕ) (cs : List (List ℕ)) (p : SoFar) (b : Blocks) → Matches p.around b.stack → Stands at b p
    → (end_block what within line b).found ≡ None → Stands at (end_block what within line b) (close_block f cs p)
closed-stands at what within line f cs p b m s h =
    let c = ended-calm what within line b (fresh-matched p.around b.stack m) h in
    at-blocks at (at + 1) (leave_innermost b) (end_block what within line b) (outline_so (close_block f cs p)) (sym c.0)
    (closed-from-stands at f cs p.around b.stack p b refl refl m s)

entered-stands : (at : ℕ) (kind : Kind) (line : ℕ) (label : Option ℕ) (x : Outline) (b : Blocks) → (steps.enter_block kind line (add_landing label b)).found ≡ None → Before at b x
    → Shows at (at + 1) (steps.enter_block kind line (add_landing label b)) (begins (lands label x))
entered-stands at kind line label x b h s =
    let c = add_landing label b in let d = push_block kind line c in
    at-blocks at (at + 1) d (steps.enter_block kind line c) (begins (lands label x)) (sym (entered-calm kind line c h).0)
    (later d.stack at at (at + 1) (at + 1) (at + 1) d (begins (lands label x))
    (begins-shown kind line at at c (lands label x) (le_refl at) (landed-as label (lands-shown label at at (at + 1) b x (begun at at b x s (le_refl at)))))
    (omega arith) (le_refl (at + 1)))
  where
    landed-as : (label : Option ℕ) → ShowsIn b.stack at at (at + 1) (add_landing label b) (lands label x) → Shows at at (add_landing label b) (lands label x)
    landed-as None t = t
    landed-as (Some l) t = t

divided-stands : (at : ℕ) (next : Kind) (line f : ℕ) (cs : List (List ℕ)) (test : Option ExprTree) (xs : List AroundTree) (os : List Open) (p : SoFar) (b : Blocks) → p.around ≡ xs → b.stack ≡ os
    → Matches xs os → Divisible xs → (part next line b).found ≡ None → Before at b (outline_so p) → Stands at (part next line b) (divide_innermost xs f cs test p)
unfolding add_spot
divided-stands at next line f cs test [] os p b e g m d h s = absurd d
divided-stands at next line f cs test (a ∷ xs) [] p b e g m d h s = absurd m
divided-stands at next line f cs test (a ∷ xs) (o ∷ os) p b e g m d h s =
    let c = record b { stack = o ∷ os } in
    let same : c ≡ b = ap (λ y. record b { stack = y }) (sym g) in
    let t = part-calm next line b.place o os b.spans b.landings b.jumps b.found m.fresh (ap (λ y. (part next line y).found) same ∙ h) in
    let left-c = steps.left_one o os c in
    let now = push_block next o.line left-c in
    let x = outline_with (a ∷ xs) p in
    let q = divide_innermost (a ∷ xs) f cs test p in
    let first = begun at at b (outline_so p) s (le_refl at) in
    let shown : ShowsIn (o ∷ os) at at (at + 1) b x =
    at-outline (o ∷ os) at at (at + 1) b (outline_so p) x (ap (λ ys. outline_with ys p) e) (standing.on-stack b.stack (o ∷ os) at at (at + 1) b (outline_so p) g first) in
    let placed : ShowsIn (o ∷ os) at at (at + 1) c x =
    record { place = shown.place; within = shown.within; count = shown.count; landings = shown.landings; jumps = shown.jumps; stack = shown.stack; now = shown.now } in
    at-blocks at (at + 1) now (part next line b) (outline_so q) (sym t.same ∙ ap (part next line) same)
    (at-outline now.stack at (at + 1) (at + 1) now (begins (leaves x)) (outline_so q) (sym (next-outline a.opening p.list test _ d))
    (later now.stack at at (at + 1) (at + 1) (at + 1) now (begins (leaves x))
    (begins-shown next o.line at at left-c (leaves x) (le_refl at) (leaves-shown o os at at c x (omega arith) placed)) (omega arith) (le_refl (at + 1))))

-- ---- each statement

pub phrase-stands : (at f : ℕ) (label : Option ℕ) (cs : List (List ℕ)) (phrase : PhraseTree) (line : ℕ) (p : SoFar) (b : Blocks) → StandsAlone phrase → Matches p.around b.stack
    → (by_role (role_of phrase) label line b).found ≡ None → Before at b (outline_so p) → Stands at (by_role (role_of phrase) label line b) (add_phrase f label cs phrase p)
unfolding add_spot add_executable add_logical_if open_block add_while
phrase-stands at f label cs (program n) line p b i m h s = begun at (at + 1) b (outline_so p) s (omega arith)
phrase-stands at f label cs (subroutine n ds) line p b i m h s = begun at (at + 1) b (outline_so p) s (omega arith)
phrase-stands at f label cs (function form n ds) line p b i m h s = begun at (at + 1) b (outline_so p) s (omega arith)
phrase-stands at f label cs (specification d) line p b i m h s = begun at (at + 1) b (outline_so p) s (omega arith)
phrase-stands at f label cs (simple w) line p b i m h s = simply-stands at label (action_of w) line p (add_executable f label cs w p) b m (stated-outline f label cs w p i) s
phrase-stands at f label cs (logical_if e w) line p b i m h s =
    simply-stands at label (action_of w) line p (add_logical_if f label cs e w p) b m (conditioned-outline f label cs e w p) s
phrase-stands at f label cs (block_if e) line p b i m h s = entered-stands at If line label (outline_so p) b h s
phrase-stands at f label cs (else_if e) line p b i m h s =
    divided-stands at If line f cs (Some e) p.around b.stack p b refl refl m (phrase-matched f label cs (else_if e) line p b m h).may h s
phrase-stands at f label cs else_part line p b i m h s =
    divided-stands at Else line f cs None p.around b.stack p b refl refl m (phrase-matched f label cs else_part line p b m h).may h s
phrase-stands at f None cs end_if line p b i m h s =
    let x = end_block sought.BlockIf (within_if (first_of b.stack)) line b in
    let g = sym (stood-found None x) ∙ h in
    stood-stands at None (close_block f cs p) x (outline_so (close_block f cs p)) (closed-matched sought.BlockIf (within_if (first_of b.stack)) line f cs p b m g) refl
    (closed-stands at sought.BlockIf (within_if (first_of b.stack)) line f cs p b m (begun at (at + 1) b (outline_so p) s (omega arith)) g)
phrase-stands at f (Some l) cs end_if line p b i m h s =
    let x = end_block sought.BlockIf (within_if (first_of b.stack)) line b in
    let g = sym (stood-found (Some l) x) ∙ h in
    continued-stands at f l [] (close_block f cs p) x (closed-matched sought.BlockIf (within_if (first_of b.stack)) line f cs p b m g)
    (closed-stands at sought.BlockIf (within_if (first_of b.stack)) line f cs p b m (begun at (at + 1) b (outline_so p) s (omega arith)) g)
phrase-stands at f label cs (do_head d) line p b i m h s = entered-stands at (Do d.label) line label (outline_so p) b h s
phrase-stands at f label cs (while_head l e) line p b i m h s = entered-stands at (Do l) line label (outline_so p) b h s
phrase-stands at f None cs end_do line p b i m h s =
    let x = parse_executable None b in
    closed-stands at sought.PlainDo (within_do (first_of x.stack)) line f cs p x (stood-matched None p b m)
    (stood-stands at None p b (outline_so p) m refl (begun at (at + 1) b (outline_so p) s (omega arith))) h
phrase-stands at f (Some l) cs end_do line p b i m h s =
    let x = parse_executable (Some l) b in
    closed-stands at sought.PlainDo (within_do (first_of x.stack)) line f [] (add_continue f l cs p) x (continued-matched f l cs p b m)
    (continued-stands at f l cs p b m (begun at (at + 1) b (outline_so p) s (omega arith))) h
phrase-stands at f None cs end_module line p b i m h s =
    let x = parse_executable None b in
    at-blocks at (at + 1) x (steps.down_to sought.Neither x.stack x) (outline_so p) (sym (module-closed p x (stood-matched None p b m) h).1)
    (stood-stands at None p b (outline_so p) m refl (begun at (at + 1) b (outline_so p) s (omega arith)))
phrase-stands at f (Some l) cs end_module line p b i m h s =
    let x = parse_executable (Some l) b in
    at-blocks at (at + 1) x (steps.down_to sought.Neither x.stack x) (outline_so (add_continue f l cs p)) (sym (module-closed (add_continue f l cs p) x (continued-matched f l cs p b m) h).1)
    (continued-stands at f l cs p b m (begun at (at + 1) b (outline_so p) s (omega arith)))
