-- What a step does to blocks that show an outline.
use Rattle.std.proofs.Common.{◌≡◌, ℕ, ◌+◌, ◌≤◌, List, [], ◌∷◌, ◌++◌, slice_set, refl, ap, ◌∙◌, subst, arith, le_refl, length-append, length-set}
use Rattle.std.specs.Prelude.{Option, Some, None}
use Rattle.f77_structure.specs.declared.mark.Action.{Action}
use Rattle.f77_structure.specs.declared.mark.Action.TheVariants.{Goto, Return, Stop, Other}
use Rattle.f77_structure.specs.declared.open.Kind.{Kind}
use Rattle.f77_structure.specs.declared.open.Open.{Open}
use Rattle.f77_structure.specs.declared.open.End.TheVariants as ends
use Rattle.f77_structure.specs.declared.blocks.Blocks.{Blocks}
use Rattle.f77_structure.specs.declared.blocks.Landing.{Landing}
use Rattle.f77_structure.specs.Lists.{first_of}
use Rattle.f77_structure.specs.Blocks.{left_one, push_block, list_at, add_landing, keep_jump}
use Rattle.roundtrip_programs.proofs.ModuleTexts.Outlines.{Outline, innermost, outer, lands, goes, begins, leaves}
use Rattle.roundtrip_programs.proofs.ModuleTexts.Shown.{path_of, Within, span, ShowsIn, Before, Shows, ended-before, ended-behind, begun-before, begun-behind, new-list, ended-open, begun-open, kept-at, kept-more}
use Rattle.fx_lists.proofs.Lookups.{get_last}

-- from places before n on to those before k, and from m on to l on
pub later : (os : List Open) (at n m k l : ℕ) (b : Blocks) (x : Outline) → ShowsIn os at n m b x → n ≤ k → m ≤ l → ShowsIn os at k l b x
later os at n m k l b x s i j = record {
  place = s.place;
  within = s.within;
  count = s.count;
  landings = s.landings;
  jumps = kept-at n k b.spans b.spans b.jumps x.goings i (λ q ks h w. w) s.jumps;
  stack = s.stack;
  now = λ q h. s.now q (omega arith);
}

pub begun : (at n : ℕ) (b : Blocks) (x : Outline) → Before at b x → at ≤ n → Shows at n b x
begun at n b x s l = later b.stack at at at n (at + 1) b x s l (omega arith)

pub on-stack : (x y : List Open) (at n m : ℕ) (b : Blocks) (o : Outline) → x ≡ y → ShowsIn x at n m b o → ShowsIn y at n m b o
on-stack x y at n m b o e s = let P : List Open → Type 0 = λ os. ShowsIn os at n m b o in subst P e s

pub at-blocks : (at n : ℕ) (b c : Blocks) (x : Outline) → b ≡ c → Shows at n b x → Shows at n c x
at-blocks at n b c x e s = let P : Blocks → Type 0 = λ d. Shows at n d x in subst P e s

pub at-outline : (os : List Open) (at n m : ℕ) (b : Blocks) (x y : Outline) → x ≡ y → ShowsIn os at n m b x → ShowsIn os at n m b y
at-outline os at n m b x y e s = let P : Outline → Type 0 = λ o. ShowsIn os at n m b o in subst P e s

-- ---- labels and GO TOs

list-same : (os : List Open) → list_at (first_of os) ≡ innermost (path_of os)
list-same [] = refl
list-same (o ∷ os) = refl

pub lands-shown : (label : Option ℕ) (at n m : ℕ) (b : Blocks) (x : Outline) → ShowsIn b.stack at n m b x → ShowsIn b.stack at n m (add_landing label b) (lands label x)
lands-shown None at n m b x s = s
lands-shown (Some l) at n m b x s =
    let one = λ (k : ℕ). (let new : Landing = record { label = l; list = k } in new ∷ []) in
    record {
      place = s.place;
      within = s.within;
      count = s.count;
      landings = ap (λ k. b.landings ++ one k) (list-same b.stack ∙ ap innermost s.within) ∙ ap (λ ls. ls ++ one (innermost x.within)) s.landings;
      jumps = s.jumps;
      stack = s.stack;
      now = s.now;
    }

pub goes-shown : (a : Action) (line at : ℕ) (b : Blocks) (x : Outline) → Before at b x → ShowsIn b.stack at (at + 1) (at + 1) (keep_jump a line b) (goes a x)
goes-shown Return line at b x s = begun at (at + 1) b x s (omega arith)
goes-shown Stop line at b x s = begun at (at + 1) b x s (omega arith)
goes-shown Other line at b x s = begun at (at + 1) b x s (omega arith)
goes-shown (Goto l) line at b x s =
    let t = begun at (at + 1) b x s (omega arith) in
    let here : Within b.spans b.place (path_of b.stack) = s.now b.place (omega (arith, s.place)) in
    let P : List ℕ → Type 0 = λ ks. Within b.spans b.place ks in
    record {
      place = s.place;
      within = s.within;
      count = s.count;
      landings = s.landings;
      jumps = kept-more (at + 1) b.spans b.jumps x.goings (record { line = line; label = l; place = b.place }) (record { label = l; lists = x.within }) t.jumps refl
          (omega (arith, s.place)) (subst P s.within here);
      stack = s.stack;
      now = t.now;
    }

-- ---- blocks

pub leaves-shown : (o : Open) (os : List Open) (at n : ℕ) (b : Blocks) (x : Outline) → n ≤ at + 1 → ShowsIn (o ∷ os) at n (at + 1) b x → Shows at n (left_one o os b) (leaves x)
leaves-shown o os at n b x l s = record {
  place = s.place;
  within = ap outer s.within;
  count = length-set b.spans o.list (span o.from (ends.At b.place)) ∙ s.count;
  landings = s.landings;
  jumps = kept-at n n b.spans (slice_set b.spans o.list (span o.from (ends.At b.place))) b.jumps x.goings (le_refl n)
      (λ q ks h w k. ended-before b.spans o.list o.from b.place q s.stack.own (omega (arith, s.place)) k ∙ w k) s.jumps;
  stack = ended-open b.spans o.list (span o.from (ends.At b.place)) os s.stack.outer s.stack.other;
  now = λ q h. ended-behind b.spans o.list o.from b.place q (path_of os) s.stack.own (omega (arith, s.place)) s.stack.other (s.now q h);
}

pub begins-shown : (kind : Kind) (line at n : ℕ) (b : Blocks) (x : Outline) → n ≤ at → Shows at n b x → Shows at n (push_block kind line b) (begins x)
begins-shown kind line at n b x l s =
    let new = span b.place ends.Open in
    record {
      place = s.place;
      within = ap (λ k. k ∷ path_of b.stack) s.count ∙ ap (λ ks. x.count ∷ ks) s.within;
      count = length-append b.spans (new ∷ []) ∙ ap (λ k. k + 1) s.count;
      landings = s.landings;
      jumps = kept-at n n b.spans (b.spans ++ new ∷ []) b.jumps x.goings (le_refl n)
          (λ q ks h w. begun-before b.spans b.place q ks (omega (arith, s.place)) w) s.jumps;
      stack = record {
        own = get_last b.spans new;
        other = new-list b.spans (at + 1) (path_of b.stack) (s.now (at + 1) (le_refl (at + 1)));
        outer = begun-open b.spans new b.stack s.stack;
      };
      now = λ q h. begun-behind b.spans b.place q (path_of b.stack) (omega (arith, s.place)) (s.now q h);
    }
