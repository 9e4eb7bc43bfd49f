-- Steps of the loops over systems, CALLs and symbols.
use Rattle.std.proofs.Common.{◌≡◌, ℕ, zero, suc, ◌+◌, ◌-◌, ◌<◌, ◌≤◌, Bool, List, [], ◌∷◌, ◌++◌, length, take, take_all, drop, length-drop, get_or, drop_of_length-le, add-one, append_assoc, append-nil, map, ap, ap₂, sym, subst, ◌∙◌, arith}
use Rattle.std.proofs.lemmas.List.Elements.{All-get_or}
use Rattle.affine_systems.specs.declared.row.Row.{Row}
use Rattle.affine_systems.specs.declared.row.System.{System}
use Rattle.affine_systems.specs.Given.{Fits}
use Rattle.hull_projection.specs.Hull.{hull}
use Rattle.f77_ast.specs.declared.symbol.Symbol.{Symbol}
use Rattle.f77_ast.specs.Symbols.{symbol_tree}
use Rattle.affine_forms.specs.Scalars.{is_cell}
use Rattle.transformers.specs.call_translation.declared.sites.Site.{Site}
use Rattle.transformers.specs.call_translation.Scopes.{ScopeTree}
use Rattle.transformers.specs.call_translation.Sites.{AllSitesFit, site_tree}
use Rattle.transformers.specs.call_translation.SiteEntry.{site_entry}
use Rattle.preconditions.specs.Statement.{hull_from, some_holds, AllFit}
use Rattle.preconditions.specs.Entry.{sites_entry, entries_of, initial_row, initial_from}
use Rattle.fx_lists.proofs.Lists.{at_place}

-- ---- hulls

pub hull_from-more : (s r : System) (ss : List System) (i : ℕ) (t : System) → i < length ss → t ≡ get_or ss i t → r ≡ hull s t → hull_from r (drop (i + 1) ss) ≡ hull_from s (drop i ss)
hull_from-more s r ss i t l g e = ap (λ x. hull_from x (drop (i + 1) ss)) e ∙ sym (ap (hull_from s) (at_place ss i t l g))

pub hull_from-end : (s : System) (ss : List System) (i : ℕ) → length ss ≤ i → hull_from s (drop i ss) ≡ s
hull_from-end s ss i l = ap (hull_from s) (drop_of_length-le ss l)

pub fits_at : (ss : List System) (i : ℕ) (t : System) → i < length ss → t ≡ get_or ss i t → AllFit ss → Fits t
fits_at ss i t l g h = subst Fits (sym g) (All-get_or Fits ss i t l h)

pub hulls_are : (ss : List System) (s first : System) → 1 ≤ length ss → s ≡ get_or ss 0 s → first ≡ s → hull_from first (take (length ss - 1) (drop 1 ss)) ≡ some_holds ss
hulls_are [] s first l g e = absurd (omega (arith, l))
hulls_are (t ∷ ss) s first l g e =
    ap (hull_from first) (take_all (length (t ∷ ss) - 1) ss (omega arith)) ∙ ap (λ (x : System). hull_from x ss) (e ∙ g)

pub ruleset hull_loop = (hull_from-more, hull_from-end, fits_at)

-- those of CALLs
pub entries-more : (m : ScopeTree) (s n r : System) (cs : List (Site System)) (i : ℕ) (c : Site System) → i < length cs → c ≡ get_or cs i c → n ≡ site_entry m (site_tree c) → r ≡ hull s n → hull_from r (entries_of m (drop (i + 1) cs)) ≡ hull_from s (entries_of m (drop i cs))
entries-more m s n r cs i c l g f e =
    ap (λ x. hull_from x (entries_of m (drop (i + 1) cs))) (e ∙ ap (hull s) f) ∙ sym (ap (λ (ds : List (Site System)). hull_from s (entries_of m ds)) (at_place cs i c l g))

pub entries-end : (m : ScopeTree) (s : System) (cs : List (Site System)) (i : ℕ) → length cs ≤ i → hull_from s (entries_of m (drop i cs)) ≡ s
entries-end m s cs i l = ap (λ (ds : List (Site System)). hull_from s (entries_of m ds)) (drop_of_length-le cs l)

pub site_fits_at : (cs : List (Site System)) (i : ℕ) (c : Site System) → i < length cs → c ≡ get_or cs i c → AllSitesFit (map site_tree cs) → Fits c.value
site_fits_at [] i c l g h = absurd (omega (arith, l))
site_fits_at (d ∷ ds) zero c l g h = subst (λ (x : Site System). Fits x.value) (sym g) (h 0 (site_tree d) (omega arith))
site_fits_at (d ∷ ds) (suc i) c l g h = site_fits_at ds i c (omega (arith, l)) g (λ k e q. h (suc k) e (omega (arith, q)))

pub ruleset entries_loop = (entries-more, entries-end, site_fits_at)

-- the first CALL and the others

fits_later : (cs : List (Site System)) → AllSitesFit (map site_tree cs) → AllSitesFit (map site_tree (drop 1 cs))
fits_later [] h = h
fits_later (c ∷ cs) h = λ k e l. h (suc k) e (omega (arith, l))

later_all : (cs : List (Site System)) → take (length cs - 1) (drop 1 cs) ≡ drop 1 cs
later_all cs = take_all (length cs - 1) (drop 1 cs) (omega (arith, length-drop 1 cs))

pub later_fit : (cs : List (Site System)) → AllSitesFit (map site_tree cs) → AllSitesFit (map site_tree (take (length cs - 1) (drop 1 cs)))
later_fit cs h = subst (λ (es : List (Site System)). AllSitesFit (map site_tree es)) (sym (later_all cs)) (fits_later cs h)

pub sites-split : (m : ScopeTree) (cs ds : List (Site System)) (c : Site System) (s t : System) → 0 < length cs → c ≡ get_or cs 0 c → ds ≡ drop 1 cs → s ≡ site_entry m (site_tree c) → t ≡ hull_from s (entries_of m ds) → t ≡ sites_entry m (map site_tree cs)
sites-split m [] ds c s t l g d e f = absurd (omega (arith, l))
sites-split m (b ∷ bs) ds c s t l g d e f =
    f ∙ ap₂ (λ (x : System) (es : List (Site System)). hull_from x (entries_of m es)) (e ∙ ap (λ (x : Site System). site_entry m (site_tree x)) g) d

pub ruleset sites_split = (site_fits_at, sites-split)

-- ---- symbols

pub initial-more : (flags : List Bool) (n : ℕ) (out new : List Row) (ss : List Symbol) (i : ℕ) (s : Symbol) → i < length ss → s ≡ get_or ss i s → new ≡ out ++ initial_row n (is_cell flags n) (symbol_tree s) → new ++ initial_from flags (n + 1) (map symbol_tree (drop (i + 1) ss)) ≡ out ++ initial_from flags n (map symbol_tree (drop i ss))
initial-more flags n out new ss i s l g e =
    let here = initial_row n (is_cell flags n) (symbol_tree s) in
    let rest : ℕ → List Row = λ m. initial_from flags m (map symbol_tree (drop (i + 1) ss)) in
    ap (λ (rs : List Row). rs ++ rest (n + 1)) e
    ∙ (append_assoc out here (rest (n + 1))
    ∙ ap (λ (rs : List Row). out ++ rs) (ap (λ m. here ++ rest m) (add-one n) ∙ sym (ap (λ (ts : List Symbol). initial_from flags n (map symbol_tree ts)) (at_place ss i s l g))))

pub initial-end : (flags : List Bool) (n : ℕ) (out : List Row) (ss : List Symbol) (i : ℕ) → length ss ≤ i → out ++ initial_from flags n (map symbol_tree (drop i ss)) ≡ out
initial-end flags n out ss i l = ap (λ (ts : List Symbol). out ++ initial_from flags n (map symbol_tree ts)) (drop_of_length-le ss l) ∙ append-nil out

pub ruleset initial_loop = (initial-more, initial-end)
