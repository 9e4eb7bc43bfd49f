-- What is trimmed stays where it is trimmed again, and what the rules make of regions is trimmed.
use Rattle.std.proofs.Common.{◌≡◌, ℕ, zero, suc, ◌+◌, ◌<◌, ◌≤◌, ◌&&◌, ◌||◌, Bool, true, false, List, [], ◌∷◌, ◌++◌, map, reverse, append_assoc, append-nil, length, get_or, ap, ap₂, refl, sym, subst, ◌∙◌, Some, true≢false, arith}
use Rattle.std.specs.Prelude.{if◌then◌else◌, not, MatchOption}
use Rattle.std.specs.Ordering.{match_ordering}
use Rattle.std.specs.declared.cmp.Ordering.{Ordering}
use Rattle.std.specs.declared.cmp.Ordering.TheVariants.{Less, Equal, Greater}
use Rattle.std.proofs.lemmas.Bool.{and_parts, or_parts}
use Rattle.std.proofs.lemmas.List.{reverse-append, reverse-reverse, length-reverse}
use Rattle.affine_systems.specs.declared.row.System.{System}
use Rattle.affine_systems.proofs.Basics.{if_cases}
use Rattle.hull_projection.specs.Refute.{refuted}
use Rattle.transformers.specs.transformer_algebra.Laws.{here}
use Rattle.transformers.specs.transformer_algebra.declared.transformer.Transformer.{Transformer}
use Rattle.transformers.proofs.TransformerAlgebra.Members.{in_right}
use Rattle.region_sets.specs.declared.region.Region.{Region}
use Rattle.region_sets.specs.declared.trimming.Trimmed.{Trimmed}
use Rattle.region_sets.specs.Regions.{remade, any_weak, all_exact, systems}
use Rattle.region_sets.specs.Within.{gives_rows, within_one, all_within}
use Rattle.region_sets.specs.Trim.{trimmed, live_pieces, sifted, limited, trim, or_infeasible, trimmed_to}
use Rattle.region_sets.specs.Unite.{unite}
use Rattle.region_sets.specs.Subtract.{are_places, less_all, unless_empty, all_left, all_apart, subtract}
use Rattle.region_sets.specs.Compose.{compose_piece, compose}
use Rattle.region_sets.specs.Lists.{all_composed}
use Rattle.region_sets.specs.Sets.{region_cmp, with_pieces, with_region, with_trimmed, with_regions, all_trimmed, unite_all}
use Rattle.region_sets.specs.Settled.{may_change, AreSettled, IsSettled, AllSettled, IsFixed, AllFixed}
use Rattle.region_sets.proofs.LiveLaws.{few_left}
use Rattle.region_sets.proofs.KeptLaws.{Are, each_of, are_each}
use Rattle.region_sets.proofs.TrimLaws.{sifted_back, trim_few}
use Rattle.region_sets.proofs.TrimSteps.{limited_small}
use Rattle.region_sets.proofs.WithinSteps.{within_both, within_reversed}

-- ---- systems of which none lies within another

-- the system lies within none of them
abbrev IsOutside : System → List System → Type 0
IsOutside s ss = Are (λ q. gives_rows s.rows q.rows ≡ false) ss

-- none of them lies within the system
abbrev HasNone : System → List System → Type 0
HasNone s ss = Are (λ q. gives_rows q.rows s.rows ≡ false) ss

abbrev AreApart : List System → Type 0
AreApart [] = Unit {0}
AreApart (s ∷ ss) = IsOutside s ss × (HasNone s ss × AreApart ss)

outside_all : (s : System) (ps : List System) → within_one ps s ≡ false → IsOutside s ps
outside_all s [] e = tt
outside_all s (p ∷ ps) e = let k = or_parts (gives_rows s.rows p.rows) (within_one ps s) e in (k.0, outside_all s ps k.1)

within_none : (s : System) (ps : List System) → IsOutside s ps → within_one ps s ≡ false
within_none s [] h = refl
within_none s (p ∷ ps) h = ap₂ (λ a b. a || b) h.0 (within_none s ps h.1)

parts_are : (P : System → Type 0) (ss ts : List System) → Are P (ss ++ ts) → Are P ss × Are P ts
parts_are P [] ts h = (tt, h)
parts_are P (s ∷ ss) ts h = let k = parts_are P ss ts h.1 in ((h.0, k.0), k.1)

-- ---- those that are left lie within none of those that are left

firsts : (s : System) (ss ts : List System) → Are (λ t. IsOutside t (s ∷ ss)) ts → HasNone s ts
firsts s ss [] h = tt
firsts s ss (t ∷ ts) h = (h.0.0, firsts s ss ts h.1)

others : (s : System) (ss ts : List System) → Are (λ t. IsOutside t (s ∷ ss)) ts → Are (λ t. IsOutside t ss) ts
others s ss [] h = tt
others s ss (t ∷ ts) h = (h.0.1, others s ss ts h.1)

sifted_apart : (ss ts : List System) → AreApart ts → Are (λ t. IsOutside t ss) ts → AreApart (sifted ss ts)
sifted_apart [] ts a h = a
sifted_apart (s ∷ ss) ts a h =
    if_cases AreApart (within_one (ss ++ ts) s) (sifted ss ts) (sifted ss (s ∷ ts)) (λ e. sifted_apart ss ts a (others s ss ts h))
    (λ e. let k = parts_are (λ q. gives_rows s.rows q.rows ≡ false) ss ts (outside_all s (ss ++ ts) e) in sifted_apart ss (s ∷ ts) (k.1, (firsts s ss ts h, a)) (k.0, others s ss ts h))

-- ---- they stay

middle : (s : System) (as' bs : List System) → AreApart (as' ++ s ∷ bs) → IsOutside s as' × IsOutside s bs
middle s [] bs a = (tt, a.0)
middle s (c ∷ as') bs a =
    let k = middle s as' bs a.1.1 in
    ((each_of (λ q. gives_rows q.rows c.rows ≡ false) (as' ++ s ∷ bs) a.1.0 s (in_right s as' (s ∷ bs) here), k.0), k.1)

sifted_stays : (rs ts : List System) → AreApart (reverse rs ++ ts) → sifted rs ts ≡ reverse rs ++ ts
sifted_stays [] ts a = refl
sifted_stays (s ∷ rs) ts a =
    let e : reverse (s ∷ rs) ++ ts ≡ reverse rs ++ s ∷ ts = ap (λ (us : List System). us ++ ts) (reverse-append (s ∷ []) rs) ∙ append_assoc (reverse rs) (s ∷ []) ts in
    let b : AreApart (reverse rs ++ s ∷ ts) = subst AreApart e a in
    let k = middle s (reverse rs) ts b in
    let n : within_one (rs ++ ts) s ≡ false = within_both s rs ts ∙ ap₂ (λ x y. x || y) (sym (within_reversed s rs) ∙ within_none s (reverse rs) k.0) (within_none s ts k.1) in
    ap (λ c. if c then sifted rs ts else sifted rs (s ∷ ts)) n ∙ (sifted_stays rs (s ∷ ts) b ∙ sym e)

live_stay : (ss : List System) → Are (λ s. refuted s.rows ≡ false) ss → live_pieces ss ≡ ss
live_stay [] h = refl
live_stay (s ∷ ss) h = ap (λ b. if b then live_pieces ss else s ∷ live_pieces ss) h.0 ∙ ap (λ (us : List System). s ∷ us) (live_stay ss h.1)

abbrev left_of : List System → List System
left_of ss = sifted (reverse (live_pieces ss)) []

left_stays : (ss : List System) → left_of (left_of ss) ≡ left_of ss
left_stays ss =
    let ks = left_of ss in
    let e : reverse (reverse ks) ++ [] ≡ ks = append-nil (reverse (reverse ks)) ∙ reverse-reverse ks in
    ap (λ (us : List System). sifted (reverse us) []) (live_stay ks (are_each (λ s. refuted s.rows ≡ false) ks (λ q i. (sifted_back q ss i).0)))
    ∙ (sifted_stays (reverse ks) [] (subst AreApart (sym e) (sifted_apart (reverse (live_pieces ss)) [] tt tt)) ∙ e)

limited_all : (ss : List System) → (limited ss).exact ≡ true → limited ss ≡ trimmed ss true
limited_all [] x = refl
limited_all (a ∷ []) x = refl
limited_all (a ∷ b ∷ []) x = refl
limited_all (a ∷ b ∷ c ∷ []) x = refl
limited_all (a ∷ b ∷ c ∷ d ∷ []) x = refl
limited_all (a ∷ b ∷ c ∷ d ∷ e ∷ ss) x = absurd (true≢false (sym x))

-- where no hull was taken
trim_again : (ss : List System) → (trim ss).exact ≡ true → trimmed (trim ss).pieces true ≡ trim (trim ss).pieces
trim_again ss x =
    let ks = left_of ss in
    let e : trim ss ≡ trimmed ks true = limited_all ks x in
    let g : trimmed ks true ≡ trim ks = sym e ∙ ap limited (sym (left_stays ss)) in
    subst (λ (us : List System). trimmed us true ≡ trim us) (sym (ap (λ (t : Trimmed). t.pieces) e)) g

-- ---- pieces that are trimmed

limited_long : (b : Bool) (ss : List System) → (limited ss).exact ≡ false → may_change b (limited ss).pieces ≡ not b
limited_long b [] x = absurd (true≢false x)
limited_long b (p ∷ []) x = absurd (true≢false x)
limited_long b (p ∷ q ∷ []) x = absurd (true≢false x)
limited_long b (p ∷ q ∷ r ∷ []) x = absurd (true≢false x)
limited_long b (p ∷ q ∷ r ∷ s ∷ []) x = absurd (true≢false x)
limited_long b (p ∷ q ∷ r ∷ s ∷ t ∷ ss) x = refl

not_false : (b : Bool) → not b ≡ false → b ≡ true
not_false true e = refl
not_false false e = absurd (true≢false e)

pub settled_trim : (b : Bool) (ss : List System) → (b ≡ true → (trim ss).exact ≡ true) → AreSettled b (trim ss).pieces
settled_trim b ss f m = go (trim ss).exact refl
  where
    go : (x : Bool) → (trim ss).exact ≡ x → trimmed (trim ss).pieces true ≡ trim (trim ss).pieces
    go true e = trim_again ss e
    go false e = absurd (true≢false (sym (f (not_false b (sym (limited_long b (left_of ss) e) ∙ m))) ∙ e))

change_less : (e b : Bool) (ss : List System) → (b ≡ true → e ≡ true) → may_change b ss ≡ false → may_change e ss ≡ false
change_less e b [] f m = m
change_less e b (s ∷ []) f m = m
change_less e b (s ∷ t ∷ []) f m = m
change_less e b (s ∷ t ∷ u ∷ []) f m = m
change_less e b (s ∷ t ∷ u ∷ v ∷ ss) f m = ap not (f (not_false b m))

-- exact only where they were
pub settled_less : (e b : Bool) (ss : List System) → (b ≡ true → e ≡ true) → AreSettled e ss → AreSettled b ss
settled_less e b ss f h m = h (change_less e b ss f m)

pub settled_inexact : (e : Bool) (ss : List System) → AreSettled e ss → AreSettled false ss
settled_inexact e ss h = settled_less e false ss (λ x. absurd (true≢false (sym x))) h

settled_or : (b : Bool) (ss : List System) → AreSettled b ss → AreSettled b (or_infeasible ss)
settled_or b [] h = λ m. absurd (true≢false m)
settled_or b (s ∷ ss) h = h

-- ---- regions that rules make

pub settled_flag : (r : Region) (e : Bool) → (e ≡ true → r.exact ≡ true) → IsSettled r → IsSettled (remade r e r.pieces)
settled_flag r e f h = settled_less r.exact (e && not (any_weak r.pieces)) r.pieces (λ k. f (and_parts e (not (any_weak r.pieces)) k).0) h

settled_made : (e w : Bool) (ss : List System) → AreSettled ((e && (trim ss).exact) && w) (trim ss).pieces
settled_made e w ss = settled_trim ((e && (trim ss).exact) && w) ss (λ k. (and_parts e (trim ss).exact (and_parts (e && (trim ss).exact) w k).0).1)

pub settled_to : (r : Region) (e : Bool) (ss : List System) → IsSettled (trimmed_to r e ss)
settled_to r e ss = settled_or ((e && (trim ss).exact) && not (any_weak (or_infeasible (trim ss).pieces))) (trim ss).pieces (settled_made e (not (any_weak (or_infeasible (trim ss).pieces))) ss)

pub settled_compose : (r : Region) (t : Transformer) → IsSettled (compose r t)
settled_compose r t = settled_to r (r.exact && all_exact (map (compose_piece t) r.pieces)) (systems (map (compose_piece t) r.pieces))

pub settled_composed : (t : Transformer) (rs : List Region) → AllSettled (all_composed t rs)
settled_composed t [] = tt
settled_composed t (r ∷ rs) = (settled_compose r t, settled_composed t rs)

settled_unite : (a b : Region) → IsSettled a → IsSettled b → IsSettled (unite a b)
settled_unite a b h k = go (all_within a.pieces b.pieces) (all_within b.pieces a.pieces)
  where
    go : (m n : Bool) → IsSettled (if m then remade a a.exact a.pieces else if n then remade b b.exact b.pieces else trimmed_to a (a.exact && b.exact) (a.pieces ++ b.pieces))
    go true n = settled_flag a a.exact (λ e. e) h
    go false true = settled_flag b b.exact (λ e. e) k
    go false false = settled_to a (a.exact && b.exact) (a.pieces ++ b.pieces)

settled_unless : (r : Region) (e : Bool) (ss : List System) → AreSettled (e && not (any_weak ss)) ss → MatchOption (unless_empty r e ss) (Unit {0}) IsSettled
settled_unless r e [] h = tt
settled_unless r e (s ∷ ss) h = h

pub settled_subtract : (a b : Region) → IsSettled a → MatchOption (subtract a b) (Unit {0}) IsSettled
settled_subtract a b h = go (b.exact && are_places b.pieces)
  where
    ss : List System
    ss = less_all a.pieces b.pieces

    go : (m : Bool) → MatchOption (if m then all_left a (less_all a.pieces b.pieces) else Some (remade a (a.exact && all_apart a.pieces b.pieces) a.pieces)) (Unit {0}) IsSettled
    go true = settled_unless a (a.exact && (trim ss).exact) (trim ss).pieces (settled_made a.exact (not (any_weak (trim ss).pieces)) ss)
    go false = settled_flag a (a.exact && all_apart a.pieces b.pieces) (λ e. (and_parts a.exact (all_apart a.pieces b.pieces) e).0) h

-- ---- sets

settled_with : (r : Region) (qs : List Region) → IsSettled r → AllSettled qs → AllSettled (with_region r qs)
settled_with r [] h k = (h, tt)
settled_with r (q ∷ qs) h k = go (region_cmp r q) (settled_with r qs h k.1)
  where
    go : (o : Ordering) → AllSettled (with_region r qs) → AllSettled (match_ordering o (r ∷ (q ∷ qs)) (unite q r ∷ qs) (q ∷ with_region r qs))
    go Less ih = (h, k)
    go Equal ih = (settled_unite q r k.0 h, k.1)
    go Greater ih = (k.0, ih)

settled_put : (r : Region) (qs : List Region) → AllSettled qs → AllSettled (with_trimmed r qs)
settled_put r qs k = go (r.exact && (trim r.pieces).exact) (trim r.pieces).pieces (λ w. settled_made r.exact w r.pieces)
  where
    go : (e : Bool) (ss : List System) → ((w : Bool) → AreSettled (e && w) ss) → AllSettled (with_pieces r e ss (λ s. with_region s qs) qs)
    go e [] h = k
    go e (s ∷ ss) h = settled_with (remade r e (s ∷ ss)) qs (h (not (any_weak (s ∷ ss)))) k

settled_regions : (qs rs : List Region) → AllSettled qs → AllSettled (with_regions qs rs)
settled_regions qs [] k = k
settled_regions qs (r ∷ rs) k = settled_regions (with_trimmed r qs) rs (settled_put r qs k)

pub settled_all : (rs : List Region) → AllSettled (all_trimmed rs)
settled_all [] = tt
settled_all (r ∷ rs) = go (r.exact && (trim r.pieces).exact) (trim r.pieces).pieces (λ w. settled_made r.exact w r.pieces) (settled_all rs)
  where
    go : (e : Bool) (ss : List System) → ((w : Bool) → AreSettled (e && w) ss) → AllSettled (all_trimmed rs) → AllSettled (with_pieces r e ss (λ s. s ∷ all_trimmed rs) (all_trimmed rs))
    go e [] h k = k
    go e (s ∷ ss) h k = (h (not (any_weak (s ∷ ss))), k)

pub settled_united : (rs : List Region) → AllSettled (unite_all rs)
settled_united rs = settled_all (with_regions [] rs)

-- ---- of four pieces at most no hull is taken

live_shorter : (ss : List System) → length (live_pieces ss) ≤ length ss
live_shorter [] = omega arith
live_shorter (s ∷ ss) = let k = live_shorter ss in if_cases (λ (us : List System). length us ≤ length (s ∷ ss)) (refuted s.rows) (live_pieces ss) (s ∷ live_pieces ss) (λ e. omega (arith, k)) (λ e. omega (arith, k))

sifted_shorter : (ss ts : List System) → length (sifted ss ts) ≤ length ss + length ts
sifted_shorter [] ts = omega arith
sifted_shorter (s ∷ ss) ts =
    let k = sifted_shorter ss ts in
    let l = sifted_shorter ss (s ∷ ts) in
    if_cases (λ (us : List System). length us ≤ length (s ∷ ss) + length ts) (within_one (ss ++ ts) s) (sifted ss ts) (sifted ss (s ∷ ts)) (λ e. omega (arith, k)) (λ e. omega (arith, l))

exact_few : (ss : List System) → length ss ≤ 4 → (trim ss).exact ≡ true
exact_few ss l =
    let a = live_shorter ss in
    let b : length (reverse (live_pieces ss)) ≡ length (live_pieces ss) = length-reverse (live_pieces ss) in
    let c : length (left_of ss) ≤ length (reverse (live_pieces ss)) + 0 = sifted_shorter (reverse (live_pieces ss)) [] in
    ap (λ (t : Trimmed). t.exact) (sym (limited_small (left_of ss) (omega (arith, a, b, c, l))))

abbrev AllFew : List Region → Type 0
AllFew [] = Unit {0}
AllFew (r ∷ rs) = (length r.pieces ≤ 4) × AllFew rs

few_unite : (a b : Region) → length a.pieces ≤ 4 → length b.pieces ≤ 4 → length (unite a b).pieces ≤ 4
few_unite a b h k = go (all_within a.pieces b.pieces) (all_within b.pieces a.pieces)
  where
    go : (m n : Bool) → length (if m then remade a a.exact a.pieces else if n then remade b b.exact b.pieces else trimmed_to a (a.exact && b.exact) (a.pieces ++ b.pieces)).pieces ≤ 4
    go true n = h
    go false true = k
    go false false = (few_left (trim (a.pieces ++ b.pieces)).pieces (trim_few (a.pieces ++ b.pieces))).1

few_with : (r : Region) (qs : List Region) → length r.pieces ≤ 4 → AllFew qs → AllFew (with_region r qs)
few_with r [] h k = (h, tt)
few_with r (q ∷ qs) h k = go (region_cmp r q) (few_with r qs h k.1)
  where
    go : (o : Ordering) → AllFew (with_region r qs) → AllFew (match_ordering o (r ∷ (q ∷ qs)) (unite q r ∷ qs) (q ∷ with_region r qs))
    go Less ih = (h, k)
    go Equal ih = (few_unite q r k.0 h, k.1)
    go Greater ih = (k.0, ih)

few_put : (r : Region) (qs : List Region) → AllFew qs → AllFew (with_trimmed r qs)
few_put r qs k = go (r.exact && (trim r.pieces).exact) (trim r.pieces).pieces (trim_few r.pieces)
  where
    go : (e : Bool) (ss : List System) → length ss ≤ 4 → AllFew (with_pieces r e ss (λ s. with_region s qs) qs)
    go e [] h = k
    go e (s ∷ ss) h = few_with (remade r e (s ∷ ss)) qs h k

few_regions : (qs rs : List Region) → AllFew qs → AllFew (with_regions qs rs)
few_regions qs [] k = k
few_regions qs (r ∷ rs) k = few_regions (with_trimmed r qs) rs (few_put r qs k)

fixed_all : (rs : List Region) → AllFew rs → AllFixed (all_trimmed rs)
fixed_all [] f = tt
fixed_all (r ∷ rs) f = go (r.exact && (trim r.pieces).exact) (trim r.pieces).pieces (trim_again r.pieces (exact_few r.pieces f.0)) (fixed_all rs f.1)
  where
    go : (e : Bool) (ss : List System) → trimmed ss true ≡ trim ss → AllFixed (all_trimmed rs) → AllFixed (with_pieces r e ss (λ s. s ∷ all_trimmed rs) (all_trimmed rs))
    go e [] h k = k
    go e (s ∷ ss) h k = ((λ m. h), k)

pub fixed_united : (rs : List Region) → AllFixed (unite_all rs)
fixed_united rs = fixed_all (with_regions [] rs) (few_regions [] rs tt)

-- what is fixed is settled
pub fixed_one : (r : Region) → IsFixed r → IsSettled r
fixed_one r h = settled_less true r.exact r.pieces (λ e. refl) h

-- ---- lists of regions

pub settled_at : (rs : List Region) (i : ℕ) (d : Region) → i < length rs → AllSettled rs → IsSettled (get_or rs i d)
settled_at [] i d l h = absurd (omega (arith, l))
settled_at (r ∷ rs) zero d l h = h.0
settled_at (r ∷ rs) (suc i) d l h = settled_at rs i d (omega (arith, l)) h.1

pub settled_append : (rs qs : List Region) → AllSettled rs → AllSettled qs → AllSettled (rs ++ qs)
settled_append [] qs h g = g
settled_append (r ∷ rs) qs h g = (h.0, settled_append rs qs h.1 g)

pub settled_more : (out new : List Region) (r : Region) → AllSettled out → new ≡ out ++ all_trimmed (r ∷ []) → AllSettled new
settled_more out new r h e = subst AllSettled (sym e) (settled_append out (all_trimmed (r ∷ [])) h (settled_all (r ∷ [])))

settled_parts : (qs : List Region) (r : Region) → AllSettled (qs ++ r ∷ []) → AllSettled qs × IsSettled r
settled_parts [] r h = (tt, h.0)
settled_parts (q ∷ qs) r h = let k = settled_parts qs r h.1 in ((h.0, k.0), k.1)

pub less_settled : (left less : List Region) (r : Region) → left ≡ less ++ r ∷ [] → AllSettled left → AllSettled less
less_settled left less r e h = (settled_parts less r (subst AllSettled e h)).0

pub last_settled : (left less : List Region) (r : Region) → left ≡ less ++ r ∷ [] → AllSettled left → IsSettled r
last_settled left less r e h = (settled_parts less r (subst AllSettled e h)).1

pub reverse_settled : (rs : List Region) → AllSettled rs → AllSettled (reverse rs)
reverse_settled [] h = tt
reverse_settled (r ∷ rs) h = subst AllSettled (sym (reverse-append (r ∷ []) rs)) (settled_append (reverse rs) (r ∷ []) (reverse_settled rs h.1) (h.0, tt))

-- a region's pieces, of one that is exact only where the region is
pub settled_as : (r : Region) (e b : Bool) (ps : List System) → (e && not r.exact) ≡ false → IsSettled r → (b ≡ true → r.pieces ≡ ps) → b ≡ true → AreSettled e ps
settled_as r e b ps x h f t = subst (AreSettled e) (f t) (settled_less r.exact e r.pieces (λ k. go e r.exact k x) h)
  where
    go : (m n : Bool) → m ≡ true → (m && not n) ≡ false → n ≡ true
    go true true k y = refl
    go true false k y = absurd (true≢false y)
    go false n k y = absurd (true≢false (sym k))

-- those of a set stay, whether the region is exact or not
pub fixed_as : (r : Region) (b : Bool) (ps : List System) → IsFixed r → (b ≡ true → r.pieces ≡ ps) → b ≡ true → AreSettled true ps
fixed_as r b ps h f t = subst (AreSettled true) (f t) h

pub sure_as : (e b : Bool) (ps : List System) → e ≡ false → (b ≡ true → AreSettled true ps) → AreSettled e ps → AreSettled b ps
sure_as e true ps x f h = f refl
sure_as e false ps x f h = subst (λ c. AreSettled c ps) x h

pub ruleset settling = (settled_more, last_settled, settled_as, settled_inexact, fixed_as, sure_as)

-- ---- a set to which regions were put

regions_append : (qs rs ss : List Region) → with_regions (with_regions qs rs) ss ≡ with_regions qs (rs ++ ss)
regions_append qs [] ss = refl
regions_append qs (r ∷ rs) ss = regions_append (with_trimmed r qs) rs ss

-- from nothing, or from a set
pub settled_begun : (none new rs : List Region) → none ≡ [] → new ≡ with_regions none rs → AllSettled new
settled_begun none new rs e n = subst AllSettled (sym (n ∙ ap (λ (us : List Region). with_regions us rs) e)) (settled_regions [] rs tt)

pub settled_both : (none one new rs ss : List Region) → none ≡ [] → one ≡ with_regions none rs → new ≡ with_regions one ss → AllSettled new
settled_both none one new rs ss e m n = subst AllSettled (sym n) (settled_regions one ss (settled_begun none one rs e m))

pub united_begun : (none new rs : List Region) → none ≡ [] → new ≡ with_regions none rs → all_trimmed new ≡ unite_all rs
united_begun none new rs e n = ap all_trimmed (n ∙ ap (λ (us : List Region). with_regions us rs) e)

pub united_both : (none one new rs ss : List Region) → none ≡ [] → one ≡ with_regions none rs → new ≡ with_regions one ss → all_trimmed new ≡ unite_all (rs ++ ss)
united_both none one new rs ss e m n =
    ap all_trimmed (n ∙ (ap (λ (us : List Region). with_regions us ss) (m ∙ ap (λ (us : List Region). with_regions us rs) e) ∙ regions_append [] rs ss))

pub ruleset gathered = (settled_begun, settled_both, united_begun, united_both)

-- ---- where they are handed on

pub composed_settled : (t : Transformer) (rs none new : List Region) → none ≡ [] → new ≡ none ++ all_composed t rs → AllSettled new
composed_settled t rs none new e n = subst AllSettled (sym (n ∙ ap (λ (us : List Region). us ++ all_composed t rs) e)) (settled_composed t rs)

pub fixed_set : (rs new : List Region) → new ≡ unite_all rs → AllFixed new
fixed_set rs new n = subst AllFixed (sym n) (fixed_united rs)

pub united_same : (none one two new rs ss : List Region) → none ≡ [] → one ≡ none ++ rs → two ≡ none ++ ss → new ≡ unite_all (one ++ two) → new ≡ unite_all (rs ++ ss)
united_same none one two new rs ss e m n k =
    k ∙ ap₂ (λ (us vs : List Region). unite_all (us ++ vs)) (m ∙ ap (λ (us : List Region). us ++ rs) e) (n ∙ ap (λ (us : List Region). us ++ ss) e)

pub ruleset handing = (composed_settled, fixed_set, united_same)
