-- Steps of trimming.
use Rattle.std.proofs.Common.{◌≡◌, ℕ, ◌+◌, ◌<◌, ◌≤◌, Bool, true, false, List, [], ◌∷◌, ◌++◌, length, reverse, append_assoc, append-nil, length-append, ap, ap₂, refl, sym, subst, ◌∙◌, arith}
use Rattle.std.specs.Prelude.{if◌then◌else◌}
use Rattle.std.proofs.lemmas.List.{reverse-append}
use Rattle.affine_systems.specs.declared.row.System.{System}
use Rattle.affine_systems.specs.Given.{Fits}
use Rattle.affine_systems.proofs.ItemSteps.{reverse_pushed}
use Rattle.hull_projection.specs.Minus.{AllFit}
use Rattle.hull_projection.specs.Refute.{refuted}
use Rattle.hull_projection.specs.Hull.{hull}
use Rattle.region_sets.specs.declared.trimming.Trimmed.{Trimmed}
use Rattle.region_sets.specs.Within.{within_one}
use Rattle.region_sets.specs.Trim.{trimmed, live_pieces, sifted, hulls, limited, trim}
use Rattle.region_sets.specs.Joining.{joined, three_and_hull, is_lone_refuted}
use Rattle.region_sets.specs.Settled.{may_change, AreSettled}
use Rattle.region_sets.proofs.Steps.{fits-push}
use Rattle.region_sets.proofs.TrimLaws.{trim_few}

-- ---- systems from the last on

pub all_push : (ss new : List System) (s : System) → new ≡ ss ++ s ∷ [] → AllFit ss → Fits s → AllFit new
all_push ss new s e h f = subst AllFit (sym e) (fits-push ss s h f)

split_fit : (ss : List System) (s : System) → AllFit (ss ++ s ∷ []) → AllFit ss × Fits s
split_fit [] s h = (tt, h.0)
split_fit (a ∷ ss) s h = let k = split_fit ss s h.1 in ((h.0, k.0), k.1)

pub less_fit : (left less : List System) (s : System) → left ≡ less ++ s ∷ [] → AllFit left → AllFit less
less_fit left less s e h = (split_fit less s (subst AllFit e h)).0

pub last_fit : (left less : List System) (s : System) → left ≡ less ++ s ∷ [] → AllFit left → Fits s
last_fit left less s e h = (split_fit less s (subst AllFit e h)).1

pub reverse_fit : (ss : List System) → AllFit ss → AllFit (reverse ss)
reverse_fit [] h = tt
reverse_fit (s ∷ ss) h = subst AllFit (sym (reverse-append (s ∷ []) ss)) (fits-push (reverse ss) s (reverse_fit ss h.1) h.0)

-- ---- those that are not refuted

live_append : (ss ts : List System) → live_pieces (ss ++ ts) ≡ live_pieces ss ++ live_pieces ts
live_append [] ts = refl
live_append (s ∷ ss) ts = go (refuted s.rows) (live_append ss ts)
  where
    go : (b : Bool) → live_pieces (ss ++ ts) ≡ live_pieces ss ++ live_pieces ts → (if b then live_pieces (ss ++ ts) else s ∷ live_pieces (ss ++ ts)) ≡ (if b then live_pieces ss else s ∷ live_pieces ss) ++ live_pieces ts
    go true h = h
    go false h = ap (λ (us : List System). s ∷ us) h

live_one : (s : System) → reverse (live_pieces (s ∷ [])) ≡ live_pieces (s ∷ [])
live_one s = go (refuted s.rows)
  where
    go : (b : Bool) → reverse (if b then [] else s ∷ []) ≡ (if b then [] else s ∷ [])
    go true = refl
    go false = refl

pub live_back : (left less out new goal : List System) (s : System) → left ≡ less ++ s ∷ [] → new ≡ out ++ live_pieces (s ∷ []) → live_pieces left ++ reverse out ≡ goal → live_pieces less ++ reverse new ≡ goal
live_back left less out new goal s e n h =
    let x : reverse new ≡ live_pieces (s ∷ []) ++ reverse out = ap reverse n ∙ (reverse-append out (live_pieces (s ∷ [])) ∙ ap (λ (us : List System). us ++ reverse out) (live_one s)) in
    let y : live_pieces left ≡ live_pieces less ++ live_pieces (s ∷ []) = ap live_pieces e ∙ live_append less (s ∷ []) in
    ap (λ (us : List System). live_pieces less ++ us) x
    ∙ (sym (append_assoc (live_pieces less) (live_pieces (s ∷ [])) (reverse out)) ∙ (ap (λ (us : List System). us ++ reverse out) (sym y) ∙ h))

pub live_done : (left out goal : List System) → left ≡ [] → live_pieces left ++ reverse out ≡ goal → reverse out ≡ goal
live_done left out goal e h = ap (λ (us : List System). live_pieces us ++ reverse out) (sym e) ∙ h

-- ---- those that lie within no other

pub kept_fit : (b : Bool) (kept new : List System) (s : System) → new ≡ (if b then kept else kept ++ s ∷ []) → AllFit kept → Fits s → AllFit new
kept_fit true kept new s e h f = subst AllFit (sym e) h
kept_fit false kept new s e h f = subst AllFit (sym e) (fits-push kept s h f)

pub sift_back : (left less kept new goal : List System) (s : System) → left ≡ less ++ s ∷ [] → new ≡ (if within_one (reverse less ++ reverse kept) s then kept else kept ++ s ∷ []) → sifted (reverse left) (reverse kept) ≡ goal → sifted (reverse less) (reverse new) ≡ goal
sift_back left less kept new goal s e n h = go (within_one (reverse less ++ reverse kept) s) n (ap (λ (us : List System). sifted us (reverse kept)) (sym x) ∙ h)
  where
    x : reverse left ≡ s ∷ reverse less
    x = ap reverse e ∙ reverse_pushed less (less ++ s ∷ []) s refl

    go : (b : Bool) → new ≡ (if b then kept else kept ++ s ∷ []) → (if b then sifted (reverse less) (reverse kept) else sifted (reverse less) (s ∷ reverse kept)) ≡ goal → sifted (reverse less) (reverse new) ≡ goal
    go true m k = ap (λ (us : List System). sifted (reverse less) (reverse us)) m ∙ k
    go false m k = ap (λ (us : List System). sifted (reverse less) us) (ap reverse m ∙ reverse_pushed kept (kept ++ s ∷ []) s refl) ∙ k

pub sift_done : (left kept goal : List System) → left ≡ [] → sifted (reverse left) (reverse kept) ≡ goal → reverse kept ≡ goal
sift_done left kept goal e h = ap (λ (us : List System). sifted (reverse us) (reverse kept)) (sym e) ∙ h

pub ruleset trimming = (all_push, less_fit, last_fit, reverse_fit, live_back, live_done, kept_fit, sift_back, sift_done, fits-push, append-nil)

-- ---- hulls of the last two

joined_end : (ss : List System) (s t : System) → joined (ss ++ s ∷ t ∷ []) ≡ ss ++ hull s t ∷ []
joined_end [] s t = refl
joined_end (a ∷ []) s t = refl
joined_end (a ∷ b ∷ []) s t = refl
joined_end (a ∷ b ∷ c ∷ ss) s t = ap (λ (us : List System). a ∷ us) (joined_end (b ∷ c ∷ ss) s t)

pub joined_last : (ss less new : List System) (s t u : System) → ss ≡ less ++ s ∷ [] → u ≡ hull s t → new ≡ less ++ u ∷ [] → new ≡ joined (ss ++ t ∷ [])
joined_last ss less new s t u f h n =
    n ∙ (ap (λ (v : System). less ++ v ∷ []) h ∙ (sym (joined_end less s t) ∙ ap joined (sym (ap (λ (us : List System). us ++ t ∷ []) f ∙ append_assoc less (s ∷ []) (t ∷ [])))))

pub joined_only : (ss less new : List System) (t : System) → ss ≡ [] → less ≡ [] → new ≡ less ++ t ∷ [] → new ≡ joined (ss ++ t ∷ [])
joined_only ss less new t e f n = n ∙ (ap (λ (us : List System). us ++ t ∷ []) f ∙ ap (λ (us : List System). joined (us ++ t ∷ [])) (sym e))

pub joined_none : (all less : List System) → all ≡ [] → less ≡ [] → less ≡ joined all
joined_none all less e f = f ∙ ap joined (sym e)

pub joined_whole : (all less new : List System) (t : System) → all ≡ less ++ t ∷ [] → new ≡ joined (less ++ t ∷ []) → new ≡ joined all
joined_whole all less new t e n = n ∙ ap joined (sym e)

-- one less, where there are two
joined_length : (s t : System) (ss : List System) → length (joined (s ∷ t ∷ ss)) ≡ length ss + 1
joined_length s t [] = refl
joined_length s t (u ∷ ss) = let k = joined_length t u ss in omega (arith, k)

pub joined_shorter : (ss new : List System) → new ≡ joined ss → 4 < length ss → length new < length ss
joined_shorter [] new e l = absurd (omega (arith, l))
joined_shorter (s ∷ []) new e l = absurd (omega (arith, l))
joined_shorter (s ∷ t ∷ ss) new e l = let k = ap length e ∙ joined_length s t ss in omega (arith, k)

pub joined_many : (ss new : List System) → new ≡ joined ss → 4 < length ss → 3 < length new
joined_many [] new e l = absurd (omega (arith, l))
joined_many (s ∷ []) new e l = absurd (omega (arith, l))
joined_many (s ∷ t ∷ ss) new e l = let k = ap length e ∙ joined_length s t ss in omega (arith, k, l)

-- the hull of all of some
abbrev hull_of : System → List System → System
hull_of d [] = d
hull_of d (s ∷ ss) = hulls s ss

abbrev hull_before : System → List System → System
hull_before s [] = s
hull_before s (t ∷ ts) = hull s (hulls t ts)

same_before : (s : System) (ss : List System) → hulls s ss ≡ hull_before s ss
same_before s [] = refl
same_before s (t ∷ ts) = refl

hull_joined : (s t : System) (ss : List System) → hull_of s (joined (s ∷ t ∷ ss)) ≡ hulls s (t ∷ ss)
hull_joined s t [] = refl
hull_joined s t (u ∷ ss) = more (joined (t ∷ u ∷ ss)) (joined_length t u ss) (hull_joined t u ss)
  where
    more : (vs : List System) → length vs ≡ length ss + 1 → hull_of t vs ≡ hulls t (u ∷ ss) → hulls s vs ≡ hull s (hulls t (u ∷ ss))
    more [] l h = absurd (omega (arith, l))
    more (v ∷ vs) l h = ap (hull s) h

pub joined_same : (ss new goal : List System) → new ≡ joined ss → 4 < length ss → three_and_hull ss ≡ goal → three_and_hull new ≡ goal
joined_same [] new goal e l h = absurd (omega (arith, l))
joined_same (a ∷ []) new goal e l h = absurd (omega (arith, l))
joined_same (a ∷ b ∷ []) new goal e l h = absurd (omega (arith, l))
joined_same (a ∷ b ∷ c ∷ []) new goal e l h = absurd (omega (arith, l))
joined_same (a ∷ b ∷ c ∷ d ∷ []) new goal e l h = absurd (omega (arith, l))
joined_same (a ∷ b ∷ c ∷ d ∷ f ∷ ss) new goal e l h = ap three_and_hull e ∙ (rest (joined (d ∷ f ∷ ss)) (joined_length d f ss) (hull_joined d f ss) ∙ h)
  where
    rest : (vs : List System) → length vs ≡ length ss + 1 → hull_of d vs ≡ hulls d (f ∷ ss) → three_and_hull (a ∷ b ∷ c ∷ vs) ≡ a ∷ b ∷ c ∷ hulls d (f ∷ ss) ∷ []
    rest [] m k = absurd (omega (arith, m))
    rest (v ∷ vs) m k = ap (λ (z : System). a ∷ b ∷ c ∷ z ∷ []) k

pub joined_done : (ss goal : List System) → length ss ≤ 4 → 3 < length ss → three_and_hull ss ≡ goal → ss ≡ goal
joined_done [] goal l m h = absurd (omega (arith, m))
joined_done (a ∷ []) goal l m h = absurd (omega (arith, m))
joined_done (a ∷ b ∷ []) goal l m h = absurd (omega (arith, m))
joined_done (a ∷ b ∷ c ∷ []) goal l m h = absurd (omega (arith, m))
joined_done (a ∷ b ∷ c ∷ d ∷ []) goal l m h = h
joined_done (a ∷ b ∷ c ∷ d ∷ e ∷ ss) goal l m h = absurd (omega (arith, l))

pub ruleset joining = (all_push, less_fit, last_fit, joined_last, joined_only, joined_none, joined_whole, joined_shorter, joined_many, joined_same, joined_done, fits-push)

-- ---- at most four

pub limited_large : (ss ts : List System) → 4 < length ss → ts ≡ three_and_hull ss → trimmed ts false ≡ limited ss
limited_large [] ts l e = absurd (omega (arith, l))
limited_large (a ∷ []) ts l e = absurd (omega (arith, l))
limited_large (a ∷ b ∷ []) ts l e = absurd (omega (arith, l))
limited_large (a ∷ b ∷ c ∷ []) ts l e = absurd (omega (arith, l))
limited_large (a ∷ b ∷ c ∷ d ∷ []) ts l e = absurd (omega (arith, l))
limited_large (a ∷ b ∷ c ∷ d ∷ e ∷ ss) ts l f = ap (λ (us : List System). trimmed us false) f

pub limited_small : (ss : List System) → length ss ≤ 4 → trimmed ss true ≡ limited ss
limited_small [] l = refl
limited_small (a ∷ []) l = refl
limited_small (a ∷ b ∷ []) l = refl
limited_small (a ∷ b ∷ c ∷ []) l = refl
limited_small (a ∷ b ∷ c ∷ d ∷ []) l = refl
limited_small (a ∷ b ∷ c ∷ d ∷ e ∷ ss) l = absurd (omega (arith, l))

pub ruleset limiting = (limited_large, limited_small)

-- ---- no system, or one

trim_one : (s : System) (b : Bool) → refuted s.rows ≡ b → trim (s ∷ []) ≡ trimmed (if b then [] else s ∷ []) true
trim_one s b e = ap (λ (ss : List System). limited (sifted (reverse ss) [])) (ap (λ c. if c then [] else s ∷ []) e) ∙ go b
  where
    go : (c : Bool) → limited (sifted (reverse (if c then [] else s ∷ [])) []) ≡ trimmed (if c then [] else s ∷ []) true
    go true = refl
    go false = refl

pub trim_alone : (ss : List System) → length ss ≤ 1 → is_lone_refuted ss ≡ false → trimmed ss true ≡ trim ss
trim_alone [] l e = refl
trim_alone (s ∷ []) l e = sym (trim_one s false e)
trim_alone (s ∷ t ∷ ss) l e = absurd (omega (arith, l))

pub trim_gone : (ss ts : List System) → ts ≡ [] → is_lone_refuted ss ≡ true → trimmed ts true ≡ trim ss
trim_gone [] ts f e = absurd (cc)
trim_gone (s ∷ []) ts f e = ap (λ (us : List System). trimmed us true) f ∙ sym (trim_one s true e)
trim_gone (s ∷ t ∷ ss) ts f e = absurd (cc)

pub trim_known : (e : Bool) (ss : List System) → AreSettled e ss → may_change e ss ≡ false → trimmed ss true ≡ trim ss
trim_known e ss h m = h m

pub few_of : (ss : List System) (t : Trimmed) → t ≡ trim ss → length t.pieces ≤ 4
few_of ss t e = subst (λ (u : Trimmed). length u.pieces ≤ 4) (sym e) (trim_few ss)

pub ruleset few = (trim_alone, trim_gone, few_of)
