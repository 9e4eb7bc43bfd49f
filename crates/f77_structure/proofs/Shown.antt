-- The lists of blocks reach over just the places of the GO TOs that are in them.
use Rattle.std.proofs.Common.{◌≡◌, ℕ, ◌<◌, ◌≤◌, Bool, true, false, List, [], ◌∷◌, ◌++◌, length, map, nat_eq, nat_le, slice_get, slice_set, sym, ap, ◌∙◌, subst, arith, ⊎_elim, le_refl}
use Rattle.std.specs.Prelude.{Some, ◌||◌, ◌&&◌}
use Rattle.std.specs.List.{list_any}
use Rattle.std.proofs.lemmas.Option.{slice_get_past}
use Rattle.std.proofs.lemmas.Bool.Decides.{eqb_tells, nat_tests}
use Rattle.f77_structure.specs.declared.open.Open.{Open}
use Rattle.f77_structure.specs.declared.open.End.{End}
use Rattle.f77_structure.specs.declared.open.End.TheVariants as ends
use Rattle.f77_structure.specs.declared.open.Span.{Span}
use Rattle.f77_structure.specs.declared.blocks.Blocks.{Blocks}
use Rattle.f77_structure.specs.declared.blocks.Jump.{Jump}
use Rattle.f77_structure.specs.declared.blocks.Landing.{Landing}
use Rattle.f77_structure.specs.Opens.{contains}
use Rattle.f77_structure.specs.Jumps.{contained_in, has_place}
use Rattle.f77_structure.specs.Nesting.{Block, Going, lists_of}
use Rattle.f77_structure.proofs.Places.{more-other}
use Rattle.fx_lists.proofs.Lookups.{set_here, set_other, get_last, get_more}
use Rattle.fx_lists.proofs.Booleans.{and_false, or_neither}

-- an open block as the definition has it
abbrev pub plain : Open → Block
plain o = record { kind = o.kind; line = o.line; list = o.list; over = o.spoiled }

abbrev pub blocks_in : List Open → List Block
blocks_in os = map plain os

-- the numbers of the open lists, the innermost first
abbrev pub path_of : List Open → List ℕ
path_of os = lists_of (blocks_in os)

abbrev pub has : ℕ → List ℕ → Bool
has k ks = list_any (λ x. nat_eq x k) ks

-- just these lists contain the place
abbrev pub Within : List Span → ℕ → List ℕ → Type 0
Within spans place ks = (k : ℕ) → has_place spans k place ≡ has k ks

abbrev pub span : ℕ → End → Span
span from end = record { from = from; end = end }

-- the list of each open block is open, and that of no block around it
abbrev pub AreOpen : List Span → List Open → Type 0
AreOpen spans [] = Unit {0}
AreOpen spans (o ∷ os) = record { own : slice_get spans o.list ≡ Some (span o.from ends.Open); other : has o.list (path_of os) ≡ false; outer : AreOpen spans os }

-- the same GO TOs, before a place
abbrev pub AreKept : ℕ → List Span → List Jump → List Going → Type 0
AreKept n spans [] [] = Unit {0}
AreKept n spans [] (g ∷ gs) = ⊥
AreKept n spans (j ∷ js) [] = ⊥
AreKept n spans (j ∷ js) (g ∷ gs) = record { line : j.line ≡ g.line; label : j.label ≡ g.label; before : j.place < n; within : Within spans j.place g.lists; others : AreKept n spans js gs }

-- at this place, with these open blocks: the GO TOs stand before n, and from m on the open lists are those that contain a place
pub record ShowsIn (os : List Open) (at n m : ℕ) (b : Blocks) (k : ℕ) (ls : List Landing) (gs : List Going) : Type 0 where
  pub place : b.place ≡ at
  pub count : length b.spans ≡ k
  pub landings : b.landings ≡ ls
  pub jumps : AreKept n b.spans b.jumps gs
  pub stack : AreOpen b.spans os
  pub now : (q : ℕ) → m ≤ q → Within b.spans q (path_of os)

-- ---- what lists contain

pub same-or-not : {P : Type 0} (a b : ℕ) → (a ≡ b → nat_eq a b ≡ true → P) → ((a ≡ b → ⊥) → nat_eq a b ≡ false → P) → P
same-or-not a b h e = ⊎_elim (λ t. h t.1 t.0) (λ t. e t.1 t.0) (eqb_tells a b)

-- a list that ends at a place contains what it did before, and nothing behind
pub ended-before : (spans : List Span) (i from at q : ℕ) → slice_get spans i ≡ Some (span from ends.Open) → q ≤ at
    → (k : ℕ) → has_place (slice_set spans i (span from (ends.At at))) k q ≡ has_place spans k q
unfolding contains
ended-before spans i from at q h l k =
    same-or-not i k
    (λ e t.
    let P : ℕ → Type 0 = λ x. has_place (slice_set spans i (span from (ends.At at))) x q ≡ has_place spans x q in
    let past : nat_le q at ≡ true = grind (arith, nat_tests) in
    subst P e
    (ap (λ x. contained_in x q) (set_here spans i (span from (ends.At at)) (span from ends.Open) h)
    ∙ ap (λ v. nat_le from q && v) past
    ∙ sym (ap (λ x. contained_in x q) h)))
    (λ e t. ap (λ x. contained_in x q) (set_other spans i k (span from (ends.At at)) e))

pub ended-behind : (spans : List Span) (i from at q : ℕ) (ks : List ℕ) → slice_get spans i ≡ Some (span from ends.Open) → at < q → has i ks ≡ false
    → Within spans q (i ∷ ks) → Within (slice_set spans i (span from (ends.At at))) q ks
unfolding contains
ended-behind spans i from at q ks h l n w k =
    same-or-not i k
    (λ e t.
    let P : ℕ → Type 0 = λ x. has_place (slice_set spans i (span from (ends.At at))) x q ≡ has x ks in
    let past : nat_le q at ≡ false = grind (arith, nat_tests) in
    subst P e
    (ap (λ x. contained_in x q) (set_here spans i (span from (ends.At at)) (span from ends.Open) h)
    ∙ ap (λ v. nat_le from q && v) past
    ∙ and_false (nat_le from q)
    ∙ sym n))
    (λ e t. ap (λ x. contained_in x q) (set_other spans i k (span from (ends.At at)) e) ∙ w k ∙ ap (λ v. v || has k ks) t)

-- no list that is yet to begin contains a place
no-list : (spans : List Span) (q : ℕ) → has_place spans (length spans) q ≡ false
no-list spans q = ap (λ x. contained_in x q) (slice_get_past spans (length spans) (le_refl (length spans)))

-- a list that begins at a place contains nothing before it, and what comes then
pub begun-before : (spans : List Span) (at q : ℕ) (ks : List ℕ) → q < at → Within spans q ks → Within (spans ++ span at ends.Open ∷ []) q ks
unfolding contains
begun-before spans at q ks l w k =
    same-or-not (length spans) k
    (λ e t.
    let P : ℕ → Type 0 = λ x. has_place (spans ++ span at ends.Open ∷ []) x q ≡ has x ks in
    let early : nat_le at q ≡ false = grind (arith, nat_tests) in
    subst P e
    (ap (λ x. contained_in x q) (get_last spans (span at ends.Open))
    ∙ ap (λ v. v && true) early
    ∙ sym (no-list spans q)
    ∙ w (length spans)))
    (λ e t. ap (λ x. contained_in x q) (more-other spans k (span at ends.Open) e) ∙ w k)

pub begun-behind : (spans : List Span) (at q : ℕ) (ks : List ℕ) → at ≤ q → Within spans q ks → Within (spans ++ span at ends.Open ∷ []) q (length spans ∷ ks)
unfolding contains
begun-behind spans at q ks l w k =
    same-or-not (length spans) k
    (λ e t.
    let P : ℕ → Type 0 = λ x. has_place (spans ++ span at ends.Open ∷ []) x q ≡ has x (length spans ∷ ks) in
    let late : nat_le at q ≡ true = grind (arith, nat_tests) in
    let own : nat_eq (length spans) (length spans) ≡ true = grind (arith, nat_tests) in
    subst P e
    (ap (λ x. contained_in x q) (get_last spans (span at ends.Open))
    ∙ ap (λ v. v && true) late
    ∙ sym (ap (λ v. v || has (length spans) ks) own)))
    (λ e t. ap (λ x. contained_in x q) (more-other spans k (span at ends.Open) e) ∙ w k ∙ sym (ap (λ v. v || has k ks) t))

pub new-list : (spans : List Span) (q : ℕ) (ks : List ℕ) → Within spans q ks → has (length spans) ks ≡ false
new-list spans q ks w = sym (w (length spans)) ∙ no-list spans q

-- ---- what is open

-- a list that no block has ends
pub ended-open : (spans : List Span) (i : ℕ) (s : Span) (os : List Open) → AreOpen spans os → has i (path_of os) ≡ false → AreOpen (slice_set spans i s) os
ended-open spans i s [] h n = tt
ended-open spans i s (o ∷ os) h n =
    let t = or_neither (nat_eq o.list i) (has i (path_of os)) n in
    let apart : i ≡ o.list → ⊥ = λ e. let own : nat_eq o.list i ≡ true = grind (arith, nat_tests, e) in absurd (cc (own, t.0)) in
    record { own = set_other spans i o.list s apart ∙ h.own; other = h.other; outer = ended-open spans i s os h.outer t.1 }

pub begun-open : (spans : List Span) (s : Span) (os : List Open) → AreOpen spans os → AreOpen (spans ++ s ∷ []) os
begun-open spans s [] h = tt
begun-open spans s (o ∷ os) h =
    record { own = get_more spans o.list s (span o.from ends.Open) h.own; other = h.other; outer = begun-open spans s os h.outer }

-- ---- the GO TOs

-- where the lists contain what they did at the places before n
pub kept-at : (n m : ℕ) (spans more : List Span) (js : List Jump) (gs : List Going) → n ≤ m → ((q : ℕ) (ks : List ℕ) → q < n → Within spans q ks → Within more q ks)
    → AreKept n spans js gs → AreKept m more js gs
kept-at n m spans more [] [] l h k = tt
kept-at n m spans more [] (g ∷ gs) l h k = absurd k
kept-at n m spans more (j ∷ js) [] l h k = absurd k
kept-at n m spans more (j ∷ js) (g ∷ gs) l h k =
    record { line = k.line; label = k.label; before = omega (arith, k.before); within = h j.place g.lists k.before k.within; others = kept-at n m spans more js gs l h k.others }

pub kept-more : (n : ℕ) (spans : List Span) (js : List Jump) (gs : List Going) (j : Jump) (g : Going) → AreKept n spans js gs → j.line ≡ g.line → j.label ≡ g.label → j.place < n
    → Within spans j.place g.lists → AreKept n spans (js ++ j ∷ []) (gs ++ g ∷ [])
kept-more n spans [] [] j g k i l b w = record { line = i; label = l; before = b; within = w; others = tt }
kept-more n spans [] (h ∷ gs) j g k e l b w = absurd k
kept-more n spans (i ∷ js) [] j g k e l b w = absurd k
kept-more n spans (i ∷ js) (h ∷ gs) j g k e l b w =
    record { line = k.line; label = k.label; before = k.before; within = k.within; others = kept-more n spans js gs j g k.others e l b w }
