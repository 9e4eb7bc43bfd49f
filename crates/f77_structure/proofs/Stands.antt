-- The blocks of the code are those of the definition, statement by statement, and so are the faults.
use Rattle.std.proofs.Common.{◌≡◌, ℕ, ◌+◌, ◌≤◌, Bool, true, false, List, [], ◌∷◌, ◌++◌, slice_set, refl, sym, ap, ◌∙◌, subst, arith, le_refl, append-nil, length-append, length-set}
use Rattle.std.specs.Prelude.{Option, Some, None, ◌||◌, if◌then◌else◌}
use Rattle.fx_lists.specs.declared.code.Code.{Code}
use Rattle.fx_lists.specs.declared.code.Code.TheVariants.{StrayPart}
use Rattle.fx_lists.specs.declared.refusal.Refusal.{Refusal}
use Rattle.f77_structure.specs.declared.mark.Action.{Action}
use Rattle.f77_structure.specs.declared.mark.Action.TheVariants.{Goto, Return, Stop, Other}
use Rattle.f77_structure.specs.declared.open.Kind.{Kind}
use Rattle.f77_structure.specs.declared.open.Sought.{Sought}
use Rattle.f77_structure.specs.declared.open.Sought.TheVariants as sought
use Rattle.f77_structure.specs.declared.open.Open.{Open}
use Rattle.f77_structure.specs.declared.open.End.TheVariants as ends
use Rattle.f77_structure.specs.declared.blocks.Blocks.{Blocks}
use Rattle.f77_structure.specs.declared.blocks.Landing.{Landing}
use Rattle.f77_structure.specs.Lists.{first_of}
use Rattle.fx_lists.specs.Refusals.{refuse_if}
use Rattle.f77_structure.specs.First.{first_fault}
use Rattle.f77_structure.specs.Kinds.{ends_at, is_if, fits}
use Rattle.f77_structure.specs.Nesting.{Block, Going, lists_of, list_of, is_within, innermost, outside, past, past_label, without, begin, label_in_list, going}
use Rattle.f77_structure.specs.Checks.{fault_if, first_among}
use Rattle.f77_structure.specs.Opens.{within_if, within_do}
use Rattle.f77_structure.specs.Blocks.{leave_innermost, left_one, left_from, ended_by, refuse_unclosed, down_to, push_block, stray, list_at, add_landing, parse_executable, keep_jump}
use Rattle.f77_structure.specs.Steps.{end_block}
use Rattle.f77_structure.proofs.FirstLemmas.{refuse_if-first}
use Rattle.f77_structure.proofs.Shown.{blocks_in, path_of, Within, span, ShowsIn, ended-before, ended-behind, begun-before, begun-behind, new-list, ended-open, begun-open, kept-at, kept-more}
use Rattle.fx_lists.proofs.Lookups.{get_last}

-- ---- the first of several faults

pub among-append : (xs ys : List Refusal) (found : Option Refusal) → first_among (xs ++ ys) found ≡ first_among ys (first_among xs found)
among-append [] ys found = refl
among-append (x ∷ xs) ys found = among-append xs ys (refuse_if true x.line x.code found)

pub among-if : (w : Bool) (line : ℕ) (f : Code) (found : Option Refusal) → first_among (fault_if w line f) found ≡ refuse_if w line f found
unfolding refuse_if
among-if true line f found = refl
among-if false line f found = refl

pub among-first : (fs : List Refusal) (x y : Option Refusal) → first_among fs (first_fault x y) ≡ first_fault x (first_among fs y)
among-first [] x y = refl
among-first (f ∷ fs) x y = ap (first_among fs) (refuse_if-first true f.line f.code x y) ∙ among-first fs x (refuse_if true f.line f.code y)

pub first-none : (x : Option Refusal) → first_fault x None ≡ x
unfolding refuse_if
first-none None = refl
first-none (Some f) = refl

-- ---- what the code has at hand of each open block

abbrev pub Cached : List Open → Type 0
Cached [] = Unit {0}
Cached (o ∷ os) = record { in_if : o.in_if ≡ is_within sought.BlockIf (blocks_in os); in_do : o.in_do ≡ is_within sought.PlainDo (blocks_in os); outer : Cached os }

pub within_if-is : (os : List Open) → Cached os → within_if (first_of os) ≡ is_within sought.BlockIf (blocks_in os)
within_if-is [] c = refl
within_if-is (o ∷ os) c = ap (λ v. is_if o.kind || v) c.in_if

pub within_do-is : (os : List Open) → Cached os → within_do (first_of os) ≡ is_within sought.PlainDo (blocks_in os)
within_do-is [] c = refl
within_do-is (o ∷ os) c = ap (λ v. fits sought.PlainDo o.kind || v) c.in_do

list-is : (os : List Open) → list_at (first_of os) ≡ list_of (blocks_in os)
list-is [] = refl
list-is (o ∷ os) = refl

-- at this place the blocks are these, so many lists began, and there are these labels and GO TOs
pub record Stands (at n m : ℕ) (b : Blocks) (os : List Block) (lists : ℕ) (labels : List Landing) (jumps : List Going) : Type 0 where
  pub blocks : blocks_in b.stack ≡ os
  pub cached : Cached b.stack
  pub shows : ShowsIn b.stack at n m b lists labels jumps

module _ (at : ℕ) where
  pub here : (n m : ℕ) (os : List Open) (b : Blocks) (lists : ℕ) (labels : List Landing) (jumps : List Going) → b.stack ≡ os → Cached os → ShowsIn os at n m b lists labels jumps
      → Stands at n m b (blocks_in os) lists labels jumps
  here n m os b lists labels jumps e c s =
      let P : List Open → Type 0 = λ x. ShowsIn x at n m b lists labels jumps in
      record { blocks = ap blocks_in e; cached = subst Cached (sym e) c; shows = subst P (sym e) s }

  pub wanted : (n m : ℕ) (b : Blocks) (os qs : List Block) (lists : ℕ) (labels : List Landing) (jumps : List Going) → os ≡ qs → Stands at n m b os lists labels jumps → Stands at n m b qs lists labels jumps
  wanted n m b os qs lists labels jumps e t = record { blocks = t.blocks ∙ e; cached = t.cached; shows = t.shows }

  pub either : (n m : ℕ) (v : Bool) (b c : Blocks) (os qs : List Block) (lists : ℕ) (labels : List Landing) (jumps : List Going) → Stands at n m b os lists labels jumps → Stands at n m c qs lists labels jumps
      → Stands at n m (if v then b else c) (if v then os else qs) lists labels jumps
  either n m true b c os qs lists labels jumps t u = t
  either n m false b c os qs lists labels jumps t u = u

  refound : (os : List Open) (n m : ℕ) (b : Blocks) (found : Option Refusal) (lists : ℕ) (labels : List Landing) (jumps : List Going) → ShowsIn os at n m b lists labels jumps
      → ShowsIn os at n m (record b { found = found }) lists labels jumps
  refound os n m b found lists labels jumps s =
      record { place = s.place; count = s.count; landings = s.landings; jumps = s.jumps; stack = s.stack; now = s.now }

  pub other_fault : (n m : ℕ) (b : Blocks) (found : Option Refusal) (os : List Block) (lists : ℕ) (labels : List Landing) (jumps : List Going) → Stands at n m b os lists labels jumps
      → Stands at n m (record b { found = found }) os lists labels jumps
  other_fault n m b found os lists labels jumps t =
      record { blocks = t.blocks; cached = t.cached; shows = refound b.stack n m b found lists labels jumps t.shows }

  -- from places before n on to those before k, and from m on to l on
  pub later : (n m k l : ℕ) (b : Blocks) (os : List Block) (lists : ℕ) (labels : List Landing) (jumps : List Going) → n ≤ k → m ≤ l → Stands at n m b os lists labels jumps → Stands at k l b os lists labels jumps
  later n m k l b os lists labels jumps i j t = record {
    blocks = t.blocks;
    cached = t.cached;
    shows = record {
      place = t.shows.place;
      count = t.shows.count;
      landings = t.shows.landings;
      jumps = kept-at n k b.spans b.spans b.jumps jumps i (λ q ks h w. w) t.shows.jumps;
      stack = t.shows.stack;
      now = λ q h. t.shows.now q (omega arith);
    };
  }

  -- ---- blocks end

  leaves : (o : Open) (os : List Open) (n : ℕ) (b : Blocks) (lists : ℕ) (labels : List Landing) (jumps : List Going) → n ≤ at + 1 → ShowsIn (o ∷ os) at n (at + 1) b lists labels jumps
      → ShowsIn os at n (at + 1) (left_one o os b) lists labels jumps
  leaves o os n b lists labels jumps l s = record {
    place = s.place;
    count = length-set b.spans o.list (span o.from (ends.At b.place)) ∙ s.count;
    landings = s.landings;
    jumps = kept-at n n b.spans (slice_set b.spans o.list (span o.from (ends.At b.place))) b.jumps jumps (le_refl n)
        (λ q ks h w k. ended-before b.spans o.list o.from b.place q s.stack.own (omega (arith, s.place)) k ∙ w k) s.jumps;
    stack = ended-open b.spans o.list (span o.from (ends.At b.place)) os s.stack.outer s.stack.other;
    now = λ q h. ended-behind b.spans o.list o.from b.place q (path_of os) s.stack.own (omega (arith, s.place)) s.stack.other (s.now q h);
  }

  past-stands : (l : ℕ) (os : List Open) (b : Blocks) (lists : ℕ) (labels : List Landing) (jumps : List Going) → b.stack ≡ os → Cached os → ShowsIn os at (at + 1) (at + 1) b lists labels jumps
      → Stands at (at + 1) (at + 1) (ended_by l os b) (past l (blocks_in os)) lists labels jumps
  past-stands l [] b lists labels jumps e c s = here (at + 1) (at + 1) [] b lists labels jumps e c s
  past-stands l (o ∷ os) b lists labels jumps e c s =
      either (at + 1) (at + 1) (ends_at l o.kind) (ended_by l os (left_one o os b)) b (past l (blocks_in os)) (blocks_in (o ∷ os)) lists labels jumps
      (past-stands l os (left_one o os b) lists labels jumps refl c.outer (leaves o os (at + 1) b lists labels jumps (le_refl (at + 1)) s))
      (here (at + 1) (at + 1) (o ∷ os) b lists labels jumps e c s)

  innermost-stands : (what : Sought) (n : ℕ) (os : List Open) (b : Blocks) (lists : ℕ) (labels : List Landing) (jumps : List Going) → n ≤ at + 1 → b.stack ≡ os → Cached os
      → ShowsIn os at n (at + 1) b lists labels jumps → Stands at n (at + 1) (down_to what os b) (innermost what (blocks_in os)) lists labels jumps
  innermost-stands what n [] b lists labels jumps l e c s = here n (at + 1) [] b lists labels jumps e c s
  innermost-stands what n (o ∷ os) b lists labels jumps l e c s =
      let d = record b { found = refuse_unclosed o b.found } in
      either n (at + 1) (fits what o.kind) b (down_to what os (left_one o os d)) (blocks_in (o ∷ os)) (innermost what (blocks_in os)) lists labels jumps
      (here n (at + 1) (o ∷ os) b lists labels jumps e c s)
      (innermost-stands what n os (left_one o os d) lists labels jumps l refl c.outer
      (leaves o os n d lists labels jumps l (refound (o ∷ os) n (at + 1) b (refuse_unclosed o b.found) lists labels jumps s)))

  outside-stands : (n : ℕ) (os : List Open) (b : Blocks) (lists : ℕ) (labels : List Landing) (jumps : List Going) → n ≤ at + 1 → b.stack ≡ os → Cached os
      → ShowsIn os at n (at + 1) b lists labels jumps → Stands at n (at + 1) (left_from os b) (outside (blocks_in os)) lists labels jumps
  outside-stands n [] b lists labels jumps l e c s = here n (at + 1) [] b lists labels jumps e c s
  outside-stands n (o ∷ os) b lists labels jumps l e c s =
      here n (at + 1) os (left_one o os b) lists labels jumps refl c.outer (leaves o os n b lists labels jumps l s)

  pub left-stands : (n : ℕ) (b : Blocks) (os : List Block) (lists : ℕ) (labels : List Landing) (jumps : List Going) → n ≤ at + 1 → Stands at n (at + 1) b os lists labels jumps
      → Stands at n (at + 1) (leave_innermost b) (outside os) lists labels jumps
  left-stands n b os lists labels jumps l t =
      wanted n (at + 1) (leave_innermost b) (outside (blocks_in b.stack)) (outside os) lists labels jumps (ap outside t.blocks)
      (outside-stands n b.stack b lists labels jumps l refl t.cached t.shows)

  pub down-stands : (what : Sought) (n : ℕ) (b : Blocks) (os : List Block) (lists : ℕ) (labels : List Landing) (jumps : List Going) → n ≤ at + 1 → Stands at n (at + 1) b os lists labels jumps
      → Stands at n (at + 1) (down_to what b.stack b) (innermost what os) lists labels jumps
  down-stands what n b os lists labels jumps l t =
      wanted n (at + 1) (down_to what b.stack b) (innermost what (blocks_in b.stack)) (innermost what os) lists labels jumps (ap (innermost what) t.blocks)
      (innermost-stands what n b.stack b lists labels jumps l refl t.cached t.shows)

  -- the innermost block that fits ends
  pub ends-stands : (what : Sought) (within : Bool) (line : ℕ) (b : Blocks) (os : List Block) (lists : ℕ) (labels : List Landing) (jumps : List Going) → within ≡ is_within what os
      → Stands at (at + 1) (at + 1) b os lists labels jumps → Stands at (at + 1) (at + 1) (end_block what within line b) (without what os) lists labels jumps
  ends-stands what within line b os lists labels jumps e t =
      let n = at + 1 in
      let d = down_to what b.stack b in
      let P : Bool → Type 0 = λ v. Stands at n n (end_block what v line b) (without what os) lists labels jumps in
      subst P (sym e)
      (either n n (is_within what os) (leave_innermost d) (stray line b) (outside (innermost what os)) os lists labels jumps
      (left-stands n d (innermost what os) lists labels jumps (le_refl n) (down-stands what n b os lists labels jumps (le_refl n) t))
      (other_fault n n b (refuse_if true line StrayPart b.found) os lists labels jumps t))

  -- ---- labels and GO TOs

  pub lands-stands : (label : Option ℕ) (n m : ℕ) (b : Blocks) (os : List Block) (lists : ℕ) (labels : List Landing) (jumps : List Going) → Stands at n m b os lists labels jumps
      → Stands at n m (add_landing label b) os lists (labels ++ label_in_list label (list_of os)) jumps
  lands-stands None n m b os lists labels jumps t =
      let P : List Landing → Type 0 = λ x. Stands at n m b os lists x jumps in
      subst P (sym (append-nil labels)) t
  lands-stands (Some l) n m b os lists labels jumps t =
      let one = λ (k : ℕ). (let new : Landing = record { label = l; list = k } in new ∷ []) in
      record {
        blocks = t.blocks;
        cached = t.cached;
        shows = record {
          place = t.shows.place;
          count = t.shows.count;
          landings = ap (λ k. b.landings ++ one k) (list-is b.stack ∙ ap list_of t.blocks) ∙ ap (λ ls. ls ++ one (list_of os)) t.shows.landings;
          jumps = t.shows.jumps;
          stack = t.shows.stack;
          now = t.shows.now;
        };
      }

  pub no-jump : (n m : ℕ) (b : Blocks) (os : List Block) (lists : ℕ) (labels : List Landing) (jumps : List Going) → Stands at n m b os lists labels jumps → Stands at n m b os lists labels (jumps ++ [])
  no-jump n m b os lists labels jumps t = let P : List Going → Type 0 = λ x. Stands at n m b os lists labels x in subst P (sym (append-nil jumps)) t

  pub jumps-stands : (a : Action) (line : ℕ) (b : Blocks) (os : List Block) (lists : ℕ) (labels : List Landing) (jumps : List Going) → Stands at at at b os lists labels jumps
      → Stands at (at + 1) (at + 1) (keep_jump a line b) os lists labels (jumps ++ going a line (lists_of os))
  jumps-stands Return line b os lists labels jumps t =
      no-jump (at + 1) (at + 1) b os lists labels jumps (later at at (at + 1) (at + 1) b os lists labels jumps (omega arith) (omega arith) t)
  jumps-stands Stop line b os lists labels jumps t =
      no-jump (at + 1) (at + 1) b os lists labels jumps (later at at (at + 1) (at + 1) b os lists labels jumps (omega arith) (omega arith) t)
  jumps-stands Other line b os lists labels jumps t =
      no-jump (at + 1) (at + 1) b os lists labels jumps (later at at (at + 1) (at + 1) b os lists labels jumps (omega arith) (omega arith) t)
  jumps-stands (Goto l) line b os lists labels jumps t =
      let u = later at at (at + 1) (at + 1) b os lists labels jumps (omega arith) (omega arith) t in
      let now : Within b.spans b.place (path_of b.stack) = t.shows.now b.place (omega (arith, t.shows.place)) in
      let P : List ℕ → Type 0 = λ ks. Within b.spans b.place ks in
      record {
        blocks = t.blocks;
        cached = t.cached;
        shows = record {
          place = t.shows.place;
          count = t.shows.count;
          landings = t.shows.landings;
          jumps = kept-more (at + 1) b.spans b.jumps jumps (record { line = line; label = l; place = b.place }) (record { line = line; label = l; lists = lists_of os }) u.shows.jumps refl refl
              (omega (arith, t.shows.place)) (subst P (ap lists_of t.blocks) now);
          stack = t.shows.stack;
          now = u.shows.now;
        };
      }

  pub stood-stands : (label : Option ℕ) (b : Blocks) (os : List Block) (lists : ℕ) (labels : List Landing) (jumps : List Going) → Stands at (at + 1) (at + 1) b os lists labels jumps
      → Stands at (at + 1) (at + 1) (parse_executable label b) (past_label label os) lists (labels ++ label_in_list label (list_of os)) jumps
  unfolding parse_executable
  stood-stands None b os lists labels jumps t = lands-stands None (at + 1) (at + 1) b os lists labels jumps t
  stood-stands (Some l) b os lists labels jumps t =
      let c = add_landing (Some l) b in
      let more = labels ++ label_in_list (Some l) (list_of os) in
      let u = lands-stands (Some l) (at + 1) (at + 1) b os lists labels jumps t in
      wanted (at + 1) (at + 1) (ended_by l b.stack c) (past l (blocks_in b.stack)) (past l os) lists more jumps (ap (past l) t.blocks)
      (past-stands l b.stack c lists more jumps refl u.cached u.shows)

  -- ---- blocks begin

  pub push-stands : (kind : Kind) (line n : ℕ) (b : Blocks) (os : List Block) (lists : ℕ) (labels : List Landing) (jumps : List Going) → n ≤ at → Stands at n (at + 1) b os lists labels jumps
      → Stands at n (at + 1) (push_block kind line b) (begin kind line lists os) (lists + 1) labels jumps
  push-stands kind line n b os lists labels jumps l t =
      let s = t.shows in
      let new = span b.place ends.Open in
      let block : ℕ → Block = λ k. record { kind = kind; line = line; list = k; over = false } in
      record {
        blocks = ap (λ k. block k ∷ blocks_in b.stack) s.count ∙ ap (λ qs. block lists ∷ qs) t.blocks;
        cached = record { in_if = within_if-is b.stack t.cached; in_do = within_do-is b.stack t.cached; outer = t.cached };
        shows = record {
          place = s.place;
          count = length-append b.spans (new ∷ []) ∙ ap (λ k. k + 1) s.count;
          landings = s.landings;
          jumps = kept-at n n b.spans (b.spans ++ new ∷ []) b.jumps jumps (le_refl n)
              (λ q ks h w. begun-before b.spans b.place q ks (omega (arith, s.place)) w) s.jumps;
          stack = record {
            own = get_last b.spans new;
            other = new-list b.spans (at + 1) (path_of b.stack) (s.now (at + 1) (le_refl (at + 1)));
            outer = begun-open b.spans new b.stack s.stack;
          };
          now = λ q h. begun-behind b.spans b.place q (path_of b.stack) (omega (arith, s.place)) (s.now q h);
        };
      }
