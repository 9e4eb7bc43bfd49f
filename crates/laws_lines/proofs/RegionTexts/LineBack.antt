-- The line of a region is read as that region.
use Rattle.std.proofs.Common.{◌≡◌, ℕ, Bool, true, false, List, [], ◌∷◌, ◌++◌, map, Some, None, refl, sym, ap, ◌∙◌}
use Rattle.std.specs.Prelude.{nat_eq, codes, bytes_eq}
use Rattle.std.specs.List.{list_all, IsDistinct, AllByRecursion}
use Rattle.std.proofs.lemmas.Bool.{and_parts}
use Rattle.std.proofs.lemmas.List.Folds.{list_all-append}
use Rattle.affine_systems.specs.declared.row.Row.{Row}
use Rattle.affine_systems.specs.declared.row.System.{System}
use Rattle.affine_systems.specs.Rows.{system}
use Rattle.system_text.specs.SystemText.{name_at, weak_text}
use Rattle.f77_ast.specs.declared.variable.Variable.{Variable}
use Rattle.f77_ast.specs.declared.variable.Variable.TheVariants.{Own, Block, Saved}
use Rattle.system_text.specs.Reading.{Bytes, after, cut, read_name}
use Rattle.system_text.specs.Printed.{in_name, is_name, AreNames, IsNumber, IsOrdered}
use Rattle.system_text.proofs.Texts.{IsFree, free-append, cut-at, cut-none}
use Rattle.system_text.proofs.Names.{IsMade, other_character, made_free, name_made, name_of_number, name-back}
use Rattle.system_text.proofs.Ordered.{fitting_systems_are_ordered}
use Rattle.hull_projection.specs.Minus.{AllFit}
use Rattle.in_out_regions.specs.region_sets.declared.region.Access.{Access}
use Rattle.in_out_regions.specs.region_sets.declared.region.Access.TheVariants.{Read, Write, In, Out}
use Rattle.in_out_regions.specs.region_sets.declared.region.Region.{Region}
use Rattle.in_out_regions.specs.region_sets.Regions.{region, any_weak}
use Rattle.in_out_regions.specs.region_sets.Written.{access_text, name_text, pieces_text, exact_text, region_text}
use Rattle.laws_lines.specs.RegionTexts.Reading.{phi_names, read_access, read_variable, read_pieces, read_flags, of_pieces, read_region}
use Rattle.laws_lines.specs.RegionTexts.Printed.{AreOther, IsPlain, IsCalled, IsReadable, as_shown}
use Rattle.laws_lines.specs.RegionTexts.Laws.{RegionLinesReadBack, OneSystemLinesReadBack, FittingRegionsAreOrdered}
use Rattle.laws_lines.proofs.RegionTexts.Joined.{all_rows, pieces-back}
use Rattle.fx_lists.proofs.Booleans.{alone}
use Rattle.fx_lists.proofs.Numbers.{swapped}

-- ---- names of symbols

front_all : {A : Type 0} (P : A → Type 0) (xs ys : List A) → AllByRecursion P (xs ++ ys) → AllByRecursion P xs
front_all P [] ys h = tt
front_all P (x ∷ xs) ys h = (h.0, front_all P xs ys h.1)

front_distinct : (xs ys : List Bytes) → IsDistinct bytes_eq (xs ++ ys) → IsDistinct bytes_eq xs
unfolding IsDistinct
front_distinct [] ys h = tt
front_distinct (x ∷ xs) ys h = (front_all (λ y. bytes_eq x y ≡ false) xs ys h.0, front_distinct xs ys h.1)

pub are_names : (names : List Bytes) → AreOther names → AreNames names
are_names names h = record {
  each = (and_parts (list_all is_name names) (list_all is_name phi_names) (sym (list_all-append is_name names phi_names) ∙ h.each)).0;
  distinct = front_distinct names phi_names h.distinct;
}

plain_made : (x : Bytes) → IsPlain x → IsMade x
plain_made [] h = tt
plain_made (c ∷ cs) h = let p = and_parts (in_name c) (list_all in_name cs) h in (p.0, plain_made cs p.1)

-- ---- variables

no_front : (m : ℕ) (x t : Bytes) → IsMade x → in_name m ≡ false → nat_eq m 58 ≡ false → after (m ∷ []) (x ++ 58 ∷ t) ≡ None
no_front m [] t h e f = rw f refl
no_front m (c ∷ cs) t h e f = let g : nat_eq m c ≡ false = swapped c m (other_character c m h.0 e) in rw g refl

no_front_alone : (m : ℕ) (x : Bytes) → IsMade x → in_name m ≡ false → after (m ∷ []) x ≡ None
no_front_alone m [] h e = refl
no_front_alone m (c ∷ cs) h e = let g : nat_eq m c ≡ false = swapped c m (other_character c m h.0 e) in rw g refl

own-back : (names : List Bytes) (n : ℕ) → AreOther names → IsNumber names n → read_variable names (name_at names n) ≡ Some (Own n)
own-back names n h k =
    let are = are_names names h in
    let made = name_made (name_at names n) (name_of_number names n are k) in
    let a : after (codes "/") (name_at names n) ≡ None = no_front_alone 47 (name_at names n) made refl in
    let b : cut 58 (name_at names n) ≡ None = cut-none 58 (name_at names n) (made_free 58 (name_at names n) refl made) in
    let c : read_name names (name_at names n) ≡ Some n = name-back names n are k in
    rw (a, b, c) refl

block-back : (names : List Bytes) (b : Bytes) → IsPlain b → read_variable names (name_text names (Block b)) ≡ Some (Block b)
block-back names b h =
    let c : cut 47 (b ++ 47 ∷ []) ≡ Some (b, []) = cut-at 47 b [] (made_free 47 b refl (plain_made b h)) in
    rw c refl

saved-back : (names : List Bytes) (s x : Bytes) → IsPlain s → read_variable names (name_text names (Saved s x)) ≡ Some (Saved s x)
saved-back names s x h =
    let made = plain_made s h in
    let a : after (codes "/") (s ++ 58 ∷ x) ≡ None = no_front 47 s x made refl refl in
    let c : cut 58 (s ++ 58 ∷ x) ≡ Some (s, x) = cut-at 58 s x (made_free 58 s refl made) in
    rw (a, c) refl

variable-back : (names : List Bytes) (v : Variable) → AreOther names → IsCalled names v → read_variable names (name_text names v) ≡ Some v
variable-back names (Own n) h k = own-back names n h k
variable-back names (Block b) h k = block-back names b k
variable-back names (Saved s x) h k = saved-back names s x k.0

variable_free : (names : List Bytes) (v : Variable) → AreOther names → IsCalled names v → IsFree 32 (name_text names v)
variable_free names (Own n) h k = made_free 32 (name_at names n) refl (name_made (name_at names n) (name_of_number names n (are_names names h) k))
variable_free names (Block b) h k = (refl, free-append 32 b (47 ∷ []) (made_free 32 b refl (plain_made b k)) (refl, tt))
variable_free names (Saved s x) h k = free-append 32 s (58 ∷ x) (made_free 32 s refl (plain_made s k.0)) (refl, made_free 32 x refl (plain_made x k.1))

-- ---- what stands before and behind

word_of : Access → Bytes
word_of Read = codes "READ"
word_of Write = codes "WRITE"
word_of In = codes "IN"
word_of Out = codes "OUT"

access_cut : (k : Access) (t : Bytes) → cut 32 (access_text k ++ t) ≡ Some (word_of k, t)
unfolding word_of
access_cut Read t = refl
access_cut Write t = refl
access_cut In t = refl
access_cut Out t = refl

access-back : (k : Access) → read_access (word_of k) ≡ Some k
unfolding word_of
access-back Read = refl
access-back Write = refl
access-back In = refl
access-back Out = refl

flags-back : (exact weak : Bool) → read_flags (exact_text exact ++ weak_text weak) ≡ Some (exact, weak)
flags-back true true = refl
flags-back true false = refl
flags-back false true = refl
flags-back false false = refl

weak_free : (weak : Bool) → IsFree 125 (weak_text weak)
weak_free true = (refl, (refl, (refl, (refl, (refl, tt)))))
weak_free false = tt

flags_free : (exact weak : Bool) → IsFree 125 (exact_text exact ++ weak_text weak)
flags_free true weak = (refl, (refl, (refl, (refl, (refl, (refl, weak_free weak))))))
flags_free false weak = (refl, (refl, (refl, (refl, weak_free weak))))

-- ---- lines

same_pieces : (ss : List System) (weak : Bool) → map (λ (rs : List Row). system rs weak) (all_rows ss) ≡ map (λ (s : System). system s.rows weak) ss
same_pieces [] weak = refl
same_pieces (s ∷ ss) weak = ap (λ (qs : List System). system s.rows weak ∷ qs) (same_pieces ss weak)

region-back : (names : List Bytes) (r : Region) → AreOther names → IsReadable names r → read_region names (region_text names r) ≡ Some (of_pieces r.variable r.kind (all_rows r.pieces) (r.exact, any_weak r.pieces))
region-back names r h k =
    let end = exact_text r.exact ++ weak_text (any_weak r.pieces) in
    let name = name_text names r.variable in
    let a : cut 32 (access_text r.kind ++ (name ++ (32 ∷ (pieces_text names r.pieces ++ end)))) ≡ Some (word_of r.kind, name ++ (32 ∷ (pieces_text names r.pieces ++ end))) =
    access_cut r.kind (name ++ (32 ∷ (pieces_text names r.pieces ++ end))) in
    let b : read_access (word_of r.kind) ≡ Some r.kind = access-back r.kind in
    let c : cut 32 (name ++ (32 ∷ (pieces_text names r.pieces ++ end))) ≡ Some (name, pieces_text names r.pieces ++ end) =
    cut-at 32 name (pieces_text names r.pieces ++ end) (variable_free names r.variable h k.variable) in
    let d : read_variable names name ≡ Some r.variable = variable-back names r.variable h k.variable in
    let e : read_pieces names (pieces_text names r.pieces ++ end) ≡ Some (all_rows r.pieces, end) = pieces-back names end h (flags_free r.exact (any_weak r.pieces)) r.pieces k.systems in
    let f : read_flags end ≡ Some (r.exact, any_weak r.pieces) = flags-back r.exact (any_weak r.pieces) in
    rw a (rw b (rw c (rw d (rw e (rw f refl)))))

pub region_lines_read_back : RegionLinesReadBack
region_lines_read_back names r h k = region-back names r h k ∙ ap (λ (ss : List System). Some (region r.variable r.kind r.exact ss)) (same_pieces r.pieces (any_weak r.pieces))

-- ---- of one system

pub same_shown : (r : Region) (s : System) → r.pieces ≡ s ∷ [] → as_shown r ≡ r
same_shown r s e =
    ap (λ (ss : List System). region r.variable r.kind r.exact (map (λ (q : System). system q.rows (any_weak ss)) ss)) e
    ∙ ap (λ (w : Bool). region r.variable r.kind r.exact (system s.rows w ∷ [])) (alone s.weak)
    ∙ ap (λ (ss : List System). region r.variable r.kind r.exact ss) (sym e)

pub one_system_lines_read_back : OneSystemLinesReadBack
one_system_lines_read_back names r s e h k = region_lines_read_back names r h k ∙ ap Some (same_shown r s e)

-- ---- systems that fit

all_ordered : (ss : List System) → AllFit ss → AllByRecursion IsOrdered ss
all_ordered [] h = tt
all_ordered (s ∷ ss) h = (fitting_systems_are_ordered s h.0, all_ordered ss h.1)

pub fitting_regions_are_ordered : FittingRegionsAreOrdered
fitting_regions_are_ordered r h = all_ordered r.pieces h
