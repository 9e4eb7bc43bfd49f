-- A statement that may not be the last of a DO changes the blocks of the code as the definition says.
use Rattle.std.proofs.Common.{◌≡◌, ℕ, ◌-◌, ◌≤◌, Bool, true, false, List, [], ◌∷◌, ◌++◌, length, take, refl, sym, ap, ◌∙◌, subst, arith, append-nil}
use Rattle.std.specs.Prelude.{Option, Some, None, ◌||◌, ◌&&◌, if◌then◌else◌}
use Rattle.std.proofs.lemmas.List.{take_all}
use Rattle.fx_lists.specs.declared.code.Code.TheVariants.{BadTerminal}
use Rattle.fx_lists.specs.declared.refusal.Refusal.{Refusal}
use Rattle.f77_structure.specs.declared.mark.Role.{Role}
use Rattle.f77_structure.specs.declared.mark.Role.TheVariants.{Program, Subroutine, Specification, Plain, LogicalIf, BlockIf, ElseIf, Else, EndIf, Do, EndDo, End}
use Rattle.f77_structure.specs.declared.open.Sought.{Sought}
use Rattle.f77_structure.specs.declared.open.Sought.TheVariants as sought
use Rattle.f77_structure.specs.declared.open.Open.{Open}
use Rattle.f77_structure.specs.declared.open.Span.{Span}
use Rattle.f77_structure.specs.declared.blocks.Blocks.{Blocks}
use Rattle.f77_structure.specs.declared.blocks.Landing.{Landing}
use Rattle.f77_structure.specs.Lists.{first_of}
use Rattle.fx_lists.specs.Refusals.{refuse_if}
use Rattle.f77_structure.specs.Kinds.{is_if, fits}
use Rattle.f77_structure.specs.LastStatements.{is_forbidden, is_part}
use Rattle.f77_structure.specs.Nesting.{Block, Going, is_within, around_part, awaits, first_awaits, is_bad_end, over_at, over_around, over_by}
use Rattle.f77_structure.specs.Opens.{can_spoil}
use Rattle.f77_structure.specs.Terminals.{spoiled, spoiled_run, ends_one, spoil, spoil_behind, spoil_part, spoiled_by}
use Rattle.f77_structure.proofs.Stands.{Cached, Stands}
use Rattle.f77_structure.proofs.Shown.{plain, blocks_in, path_of, has, Within, AreOpen}

abbrev pub with_stack : List Open → Blocks → Blocks
with_stack os b = record b { stack = os }

-- ---- blocks that differ at most in whether they are over

pub record Keeps (os qs : List Open) : Type 0 where
  pub path : path_of qs ≡ path_of os
  pub within : (what : Sought) → is_within what (blocks_in qs) ≡ is_within what (blocks_in os)
  pub caches : Cached os → Cached qs
  pub opens : (spans : List Span) → AreOpen spans os → AreOpen spans qs

keeps_none : Keeps [] []
keeps_none = record { path = refl; within = λ what. refl; caches = λ c. c; opens = λ spans a. a }

keeps_more : (o : Open) (v : Bool) (os qs : List Open) → Keeps os qs → Keeps (o ∷ os) (record o { spoiled = v } ∷ qs)
keeps_more o v os qs k = record {
  path = ap (λ ks. o.list ∷ ks) k.path;
  within = λ what. ap (λ w. fits what o.kind || w) (k.within what);
  caches = λ c. record { in_if = c.in_if ∙ sym (k.within sought.BlockIf); in_do = c.in_do ∙ sym (k.within sought.PlainDo); outer = k.caches c.outer };
  opens = λ spans a. record { own = a.own; other = ap (has o.list) k.path ∙ a.other; outer = k.opens spans a.outer };
}

keeps_all : (os : List Open) → Keeps os os
keeps_all [] = keeps_none
keeps_all (o ∷ os) = keeps_more o o.spoiled os os (keeps_all os)

keeps_if : (v : Bool) (os ps qs : List Open) → Keeps os ps → Keeps os qs → Keeps os (if v then ps else qs)
keeps_if true os ps qs h k = h
keeps_if false os ps qs h k = k

pub run-keeps : (l : ℕ) (os : List Open) → Keeps os (spoiled_run l os)
run-keeps l [] = keeps_none
run-keeps l (o ∷ os) = keeps_if (can_spoil l o) (o ∷ os) (spoiled o ∷ spoiled_run l os) (o ∷ os) (keeps_more o true os (spoiled_run l os) (run-keeps l os)) (keeps_all (o ∷ os))

keep-stands : (at n m : ℕ) (b : Blocks) (qs : List Open) (found : Option Refusal) (os ps : List Block) (lists : ℕ) (labels : List Landing) (jumps : List Going) → Keeps b.stack qs → blocks_in qs ≡ ps
    → Stands at n m b os lists labels jumps → Stands at n m (record b { stack = qs; found = found }) ps lists labels jumps
keep-stands at n m b qs found os ps lists labels jumps k e t = record {
  blocks = e;
  cached = k.caches t.cached;
  shows = record {
    place = t.shows.place;
    count = t.shows.count;
    landings = t.shows.landings;
    jumps = t.shows.jumps;
    stack = k.opens b.spans t.shows.stack;
    now = λ q h. (let P : List ℕ → Type 0 = λ ks. Within b.spans q ks in subst P (sym k.path) (t.shows.now q h));
  };
}

-- ---- the innermost DOs to a label

awaits-is : (l : ℕ) (o : Open) → can_spoil l o ≡ awaits l (plain o)
unfolding can_spoil
awaits-is l o = refl

first-is : (l : ℕ) (os : List Open) → ends_one l (first_of os) ≡ first_awaits l (blocks_in os)
first-is l [] = refl
first-is l (o ∷ os) = awaits-is l o

map-if : (v w : Bool) (os qs : List Open) (ps rs : List Block) → v ≡ w → blocks_in os ≡ ps → blocks_in qs ≡ rs → blocks_in (if v then os else qs) ≡ (if w then ps else rs)
map-if true true os qs ps rs e h k = h
map-if false false os qs ps rs e h k = k
map-if true false os qs ps rs e h k = cc
map-if false true os qs ps rs e h k = cc

run-blocks : (l : ℕ) (os : List Open) → blocks_in (spoiled_run l os) ≡ over_at l (blocks_in os)
run-blocks l [] = refl
run-blocks l (o ∷ os) =
    map-if (can_spoil l o) (awaits l (plain o)) (spoiled o ∷ spoiled_run l os) (o ∷ os) (plain (spoiled o) ∷ over_at l (blocks_in os)) (plain o ∷ blocks_in os)
    (awaits-is l o) (ap (λ qs. plain (spoiled o) ∷ qs) (run-blocks l os)) refl

-- ---- which list the statement is in

all-around : (l : ℕ) (os : List Block) → over_around l os os ≡ over_at l os
all-around l os = let z : length os - length os ≡ 0 = omega arith in ap (λ n. take n os ++ over_at l os) z

tail-around : (l : ℕ) (o : Block) (os : List Block) → over_around l os (o ∷ os) ≡ o ∷ over_at l os
tail-around l o os = let z : length (o ∷ os) - length os ≡ 1 = omega arith in ap (λ n. take n (o ∷ os) ++ over_at l os) z

none-around : (l : ℕ) (os : List Block) → over_around l [] os ≡ os
none-around l os =
    let z : length os ≤ length os - 0 = omega arith in
    ap (λ qs. qs ++ []) (take_all (length os - 0) os z) ∙ append-nil os

-- a part: the new stack, and whether a DO has a bad end
part_run : ℕ → List Open → List Open
part_run l [] = []
part_run l (o ∷ os) = if is_if o.kind then o ∷ spoiled_run l os else if o.in_if then o ∷ os else spoiled_run l (o ∷ os)

part_bad : ℕ → List Open → Bool
part_bad l [] = false
part_bad l (o ∷ os) = if is_if o.kind then ends_one l (first_of os) else if o.in_if then false else ends_one l (Some o)

part-by : (v w : Bool) (l line : ℕ) (o : Open) (os : List Open) (b : Blocks)
    → (if v then spoil_behind l line (o ∷ os) (with_stack (o ∷ os) b) else if w then with_stack (o ∷ os) b else spoil l line (with_stack (o ∷ os) b))
    ≡ record b {
      stack = if v then o ∷ spoiled_run l os else if w then o ∷ os else spoiled_run l (o ∷ os);
      found = refuse_if (if v then ends_one l (first_of os) else if w then false else ends_one l (Some o)) line BadTerminal b.found;
    }
unfolding refuse_if
part-by true w l line o os b = refl
part-by false true l line o os b = refl
part-by false false l line o os b = refl

part-is : (l line : ℕ) (os : List Open) (b : Blocks) → spoil_part l line (with_stack os b) ≡ record b { stack = part_run l os; found = refuse_if (part_bad l os) line BadTerminal b.found }
unfolding refuse_if part_run part_bad
part-is l line [] b = refl
part-is l line (o ∷ os) b = part-by (is_if o.kind) o.in_if l line o os b

part-keeps : (l : ℕ) (os : List Open) → Keeps os (part_run l os)
unfolding part_run
part-keeps l [] = keeps_none
part-keeps l (o ∷ os) =
    keeps_if (is_if o.kind) (o ∷ os) (o ∷ spoiled_run l os) (if o.in_if then o ∷ os else spoiled_run l (o ∷ os)) (keeps_more o o.spoiled os (spoiled_run l os) (run-keeps l os))
    (keeps_if o.in_if (o ∷ os) (o ∷ os) (spoiled_run l (o ∷ os)) (keeps_all (o ∷ os)) (run-keeps l (o ∷ os)))

around-by : (v w : Bool) (l : ℕ) (o : Open) (os : List Open)
    → blocks_in (if v then o ∷ spoiled_run l os else if w then o ∷ os else spoiled_run l (o ∷ os))
    ≡ over_around l (if v then blocks_in os else if w then [] else blocks_in (o ∷ os)) (blocks_in (o ∷ os))
around-by true w l o os = ap (λ qs. plain o ∷ qs) (run-blocks l os) ∙ sym (tail-around l (plain o) (blocks_in os))
around-by false true l o os = sym (none-around l (blocks_in (o ∷ os)))
around-by false false l o os = run-blocks l (o ∷ os) ∙ sym (all-around l (blocks_in (o ∷ os)))

part-blocks : (l : ℕ) (os : List Open) → Cached os → blocks_in (part_run l os) ≡ over_around l (around_part (blocks_in os)) (blocks_in os)
unfolding part_run
part-blocks l [] c = refl
part-blocks l (o ∷ os) c =
    around-by (is_if o.kind) o.in_if l o os
    ∙ ap (λ w. over_around l (if is_if o.kind then blocks_in os else if w then [] else blocks_in (o ∷ os)) (blocks_in (o ∷ os))) c.in_if

bad-by : (v w : Bool) (l : ℕ) (o : Open) (os : List Open)
    → (if v then ends_one l (first_of os) else if w then false else ends_one l (Some o)) ≡ first_awaits l (if v then blocks_in os else if w then [] else blocks_in (o ∷ os))
bad-by true w l o os = first-is l os
bad-by false true l o os = refl
bad-by false false l o os = awaits-is l o

part-bad : (l : ℕ) (os : List Open) → Cached os → part_bad l os ≡ first_awaits l (around_part (blocks_in os))
unfolding part_bad
part-bad l [] c = refl
part-bad l (o ∷ os) c =
    bad-by (is_if o.kind) o.in_if l o os ∙ ap (λ w. first_awaits l (if is_if o.kind then blocks_in os else if w then [] else blocks_in (o ∷ os))) c.in_if

-- ---- the statement as a last one

pub record Marks (at n m : ℕ) (b c : Blocks) (wrong : Bool) (line : ℕ) (os : List Block) (lists : ℕ) (labels : List Landing) (jumps : List Going) : Type 0 where
  pub stands : Stands at n m c os lists labels jumps
  pub found : c.found ≡ refuse_if wrong line BadTerminal b.found

module _ (at n m line l : ℕ) (b : Blocks) (os : List Block) (lists : ℕ) (labels : List Landing) (jumps : List Going) (t : Stands at n m b os lists labels jumps) where
  spoil-marks : Marks at n m b (spoil l line b) (first_awaits l os) line (over_around l os os) lists labels jumps
  spoil-marks = record {
    stands = keep-stands at n m b (spoiled_run l b.stack) (refuse_if (ends_one l (first_of b.stack)) line BadTerminal b.found) os (over_around l os os) lists labels jumps (run-keeps l b.stack)
        (run-blocks l b.stack ∙ ap (over_at l) t.blocks ∙ sym (all-around l os)) t;
    found = ap (λ v. refuse_if v line BadTerminal b.found) (first-is l b.stack ∙ ap (first_awaits l) t.blocks);
  }

  part-marks : Marks at n m b (spoil_part l line b) (first_awaits l (around_part os)) line (over_around l (around_part os) os) lists labels jumps
  part-marks =
      let want = over_around l (around_part os) os in
      let P : Blocks → Type 0 = λ c. Marks at n m b c (first_awaits l (around_part os)) line want lists labels jumps in
      subst P (sym (part-is l line b.stack b)) (record {
        stands = keep-stands at n m b (part_run l b.stack) (refuse_if (part_bad l b.stack) line BadTerminal b.found) os want lists labels jumps (part-keeps l b.stack)
            (part-blocks l b.stack t.cached ∙ ap (λ qs. over_around l (around_part qs) qs) t.blocks) t;
        found = ap (λ v. refuse_if v line BadTerminal b.found) (part-bad l b.stack t.cached ∙ ap (λ qs. first_awaits l (around_part qs)) t.blocks);
      })

  no-marks : Marks at n m b b false line os lists labels jumps
  unfolding refuse_if
  no-marks = record { stands = t; found = refl }

  label-by : (f p : Bool) → (f ≡ true → p ≡ false)
      → Marks at n m b (if f then spoil l line b else if p then spoil_part l line b else b) ((f || p) && first_awaits l (if p then around_part os else os)) line
      (if f || p then over_around l (if p then around_part os else os) os else os) lists labels jumps
  label-by true true h = let no = h refl in cc
  label-by true false h = spoil-marks
  label-by false true h = part-marks
  label-by false false h = no-marks

apart : (role : Role) → is_forbidden role ≡ true → is_part role ≡ false
apart Program h = refl
apart Subroutine h = refl
apart Specification h = refl
apart (Plain a) h = refl
apart (LogicalIf a) h = refl
apart BlockIf h = refl
apart ElseIf h = cc
apart Else h = cc
apart EndIf h = cc
apart (Do t) h = refl
apart EndDo h = refl
apart End h = refl

pub last-marks : (at n m : ℕ) (role : Role) (label : Option ℕ) (line : ℕ) (b : Blocks) (os : List Block) (lists : ℕ) (labels : List Landing) (jumps : List Going) → Stands at n m b os lists labels jumps
    → Marks at n m b (spoiled_by role label line b) (is_bad_end role label os) line (over_by role label os) lists labels jumps
last-marks at n m role None line b os lists labels jumps t = no-marks at n m line 0 b os lists labels jumps t
last-marks at n m role (Some l) line b os lists labels jumps t = label-by at n m line l b os lists labels jumps t (is_forbidden role) (is_part role) (apart role)
