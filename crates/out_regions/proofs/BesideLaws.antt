-- OUT of WRITE regions is told by the regions of their variables, and of variables that share units with these.
use Rattle.std.proofs.Common.{◌≡◌, ℕ, Bool, true, false, ◌&&◌, List, [], ◌∷◌, ◌++◌, map, refl, ap, ap₂, sym, ◌∙◌, Option, Some, None}
use Rattle.std.specs.Prelude.{◌||◌, if◌then◌else◌, option_to_list}
use Rattle.affine_systems.specs.declared.row.System.{System}
use Rattle.f77_ast.specs.declared.variable.Variable.{Variable}
use Rattle.f77_ast.specs.Symbols.{SymbolTree}
use Rattle.f77_ast.specs.Shared.{overlap}
use Rattle.in_out_regions.specs.transformer_algebra.declared.transformer.Transformer.{Transformer}
use Rattle.in_out_regions.specs.region_sets.declared.region.Region.{Region}
use Rattle.in_out_regions.specs.region_sets.Compose.{compose}
use Rattle.in_out_regions.specs.region_sets.Regions.{remade}
use Rattle.in_out_regions.specs.region_sets.Trim.{trim}
use Rattle.in_out_regions.specs.region_sets.Sets.{with_pieces, all_trimmed}
use Rattle.in_out_regions.specs.region_sets.Subtract.{are_places, less_all, unless_empty, all_left, all_apart}
use Rattle.in_out_regions.specs.region_sets.Lists.{all_composed}
use Rattle.in_out_regions.specs.Kinds.{is_write}
use Rattle.in_out_regions.specs.Writes.{write_of}
use Rattle.in_out_regions.specs.Lists.{less_write, all_unwritten}
use Rattle.out_regions.specs.declared.rest.Rest.{Rest}
use Rattle.out_regions.specs.Known.{KnownTree}
use Rattle.out_regions.specs.Used.{as_out, all_out, is_used_beside, joined, used_joined, used_in, met_with, used_of, if_write, used}
use Rattle.out_regions.specs.Lists.{writes_at, left_over, first_out}
use Rattle.out_regions.specs.Beside.{is_met, kept, beside}
use Rattle.f77_ast.specs.Variables.{same_variable}

-- ---- what keeps the variables of regions may come before or after

module _ (q : Variable → Bool) where
  kept-append : (xs ys : List Region) → kept q (xs ++ ys) ≡ kept q xs ++ kept q ys
  kept-append [] ys = refl
  kept-append (x ∷ xs) ys = go (q x.variable) (kept-append xs ys) where
    go : (b : Bool) → kept q (xs ++ ys) ≡ kept q xs ++ kept q ys → (if b then x ∷ kept q (xs ++ ys) else kept q (xs ++ ys)) ≡ (if b then x ∷ kept q xs else kept q xs) ++ kept q ys
    go true h = ap (λ (zs : List Region). x ∷ zs) h
    go false h = h

  kept-composed : (t : Transformer) (rs : List Region) → all_composed t (kept q rs) ≡ kept q (all_composed t rs)
  kept-composed t [] = refl
  kept-composed t (r ∷ rs) = go (q r.variable) (kept-composed t rs) where
    go : (b : Bool) → all_composed t (kept q rs) ≡ kept q (all_composed t rs) → all_composed t (if b then r ∷ kept q rs else kept q rs) ≡ (if b then compose r t ∷ kept q (all_composed t rs) else kept q (all_composed t rs))
    go true h = ap (λ (zs : List Region). compose r t ∷ zs) h
    go false h = h

  kept-out : (rs : List Region) → map as_out (kept q rs) ≡ kept q (map as_out rs)
  kept-out [] = refl
  kept-out (r ∷ rs) = go (q r.variable) (kept-out rs) where
    go : (b : Bool) → map as_out (kept q rs) ≡ kept q (map as_out rs) → map as_out (if b then r ∷ kept q rs else kept q rs) ≡ (if b then as_out r ∷ kept q (map as_out rs) else kept q (map as_out rs))
    go true h = ap (λ (zs : List Region). as_out r ∷ zs) h
    go false h = h

  -- a region with some of its pieces, before others
  kept-pieces : (r : Region) (e : Bool) (ps : List System) (rs : List Region) →
      kept q (with_pieces r e ps (λ s. s ∷ rs) rs) ≡ (if q r.variable then with_pieces r e ps (λ s. s ∷ kept q rs) (kept q rs) else kept q rs)
  kept-pieces r e [] rs = same (q r.variable) where
    same : (b : Bool) → kept q rs ≡ (if b then kept q rs else kept q rs)
    same true = refl
    same false = refl
  kept-pieces r e (p ∷ ps) rs = refl

  kept-trimmed : (rs : List Region) → all_trimmed (kept q rs) ≡ kept q (all_trimmed rs)
  kept-trimmed [] = refl
  kept-trimmed (r ∷ rs) = go (q r.variable) ∙ (ap left (kept-trimmed rs) ∙ sym (kept-pieces r e ps (all_trimmed rs))) where
    e : Bool
    e = r.exact && (trim r.pieces).exact

    ps : List System
    ps = (trim r.pieces).pieces

    left : List Region → List Region
    left zs = if q r.variable then with_pieces r e ps (λ s. s ∷ zs) zs else zs

    go : (b : Bool) → all_trimmed (if b then r ∷ kept q rs else kept q rs) ≡ (if b then with_pieces r e ps (λ s. s ∷ all_trimmed (kept q rs)) (all_trimmed (kept q rs)) else all_trimmed (kept q rs))
    go true = refl
    go false = refl

  kept-all-out : (rs : List Region) → all_out (kept q rs) ≡ kept q (all_out rs)
  kept-all-out rs = ap (map as_out) (kept-trimmed rs) ∙ kept-out (all_trimmed rs)

  -- what is left of a region
  kept-none : (b : Bool) → kept q [] ≡ (if b then kept q [] else kept q [])
  kept-none true = refl
  kept-none false = refl

  kept-unless : (r : Region) (e : Bool) (ps : List System) → kept q (option_to_list (unless_empty r e ps)) ≡ (if q r.variable then option_to_list (unless_empty r e ps) else [])
  kept-unless r e [] = kept-none (q r.variable)
  kept-unless r e (p ∷ ps) = refl

  kept-less : (o : Option Region) (r : Region) → kept q (option_to_list (less_write o r)) ≡ (if q r.variable then option_to_list (less_write o r) else [])
  kept-less None r = refl
  kept-less (Some w) r = go (w.exact && are_places w.pieces) where
    left : List System
    left = less_all r.pieces w.pieces

    some : Bool → Option Region
    some b = if b then all_left r left else Some (remade r (r.exact && all_apart r.pieces w.pieces) r.pieces)

    go : (b : Bool) → kept q (option_to_list (some b)) ≡ (if q r.variable then option_to_list (some b) else [])
    go true = kept-unless r (r.exact && (trim left).exact) (trim left).pieces
    go false = refl

  kept-unwritten : (ws rs : List Region) → all_unwritten ws (kept q rs) ≡ kept q (all_unwritten ws rs)
  kept-unwritten ws [] = refl
  kept-unwritten ws (r ∷ rs) =
      let x = option_to_list (less_write (write_of r.variable ws) r) in
      go (q r.variable)
      ∙ (ap (λ (zs : List Region). (if q r.variable then x else []) ++ zs) (kept-unwritten ws rs)
      ∙ (ap (λ (zs : List Region). zs ++ kept q (all_unwritten ws rs)) (sym (kept-less (write_of r.variable ws) r)) ∙ sym (kept-append x (all_unwritten ws rs))))
    where
      go : (b : Bool) → all_unwritten ws (if b then r ∷ kept q rs else kept q rs) ≡ (if b then option_to_list (less_write (write_of r.variable ws) r) else []) ++ all_unwritten ws (kept q rs)
      go true = refl
      go false = refl

  kept-over : (leaving : Bool) (ws out : List Region) → left_over leaving ws (kept q out) ≡ kept q (left_over leaving ws out)
  kept-over true ws out = refl
  kept-over false ws out = kept-unwritten (all_trimmed ws) out

-- ---- what is used of a region is told by what is kept, where that is enough

absorbed : (b o : Bool) → (o ≡ true → b ≡ true) → (b && o) ≡ o
absorbed true o h = refl
absorbed false true h = h refl
absorbed false false h = refl

module _ (ss : List SymbolTree) (q : Variable → Bool) where
  kept-beside : (us : List Region) (v : Variable) → ((u : Variable) → overlap ss u v ≡ true → q u ≡ true) → is_used_beside ss (kept q us) v ≡ is_used_beside ss us v
  kept-beside [] v h = refl
  kept-beside (u ∷ us) v h =
      go (q u.variable)
      ∙ (ap (λ b. b || is_used_beside ss (kept q us) v) (absorbed (q u.variable) (overlap ss u.variable v) (h u.variable))
      ∙ ap (λ b. overlap ss u.variable v || b) (kept-beside us v h))
    where
      go : (b : Bool) → is_used_beside ss (if b then u ∷ kept q us else kept q us) v ≡ ((b && overlap ss u.variable v) || is_used_beside ss (kept q us) v)
      go true = refl
      go false = refl

  kept-joined : (us : List Region) (v : Variable) (o : Option Region) → ((u : Variable) → same_variable v u ≡ true → q u ≡ true) → used_joined v o (kept q us) ≡ used_joined v o us
  kept-joined [] v o h = refl
  kept-joined (u ∷ us) v o h =
      go (q u.variable)
      ∙ (ap (λ b. if b then used_joined v (Some (joined o u)) (kept q us) else used_joined v o (kept q us)) (absorbed (q u.variable) (same_variable v u.variable) (h u.variable))
      ∙ ap₂ (λ (m n : Option Region). if same_variable v u.variable then m else n) (kept-joined us v (Some (joined o u)) h) (kept-joined us v o h))
    where
      go : (b : Bool) → used_joined v o (if b then u ∷ kept q us else kept q us) ≡ (if b && same_variable v u.variable then used_joined v (Some (joined o u)) (kept q us) else used_joined v o (kept q us))
      go true = refl
      go false = refl

  kept-used-of : (us : List Region) (w : Region) → ((u : Variable) → overlap ss u w.variable ≡ true → q u ≡ true) → ((u : Variable) → same_variable w.variable u ≡ true → q u ≡ true) → used_of ss (kept q us) w ≡ used_of ss us w
  kept-used-of us w h g =
      ap (λ b. if b then as_out w ∷ [] else met_with w (used_in w.variable (kept q us))) (kept-beside us w.variable h)
      ∙ ap (λ (o : Option Region). if is_used_beside ss us w.variable then as_out w ∷ [] else met_with w o) (kept-joined us w.variable None g)

or-second : (a b c : Bool) → b ≡ true → (a || (b || c)) ≡ true
or-second true b c h = refl
or-second false b c h = ap (λ x. x || c) h

or-third : (a b c : Bool) → c ≡ true → (a || (b || c)) ≡ true
or-third true b c h = refl
or-third false true c h = refl
or-third false false c h = h

kept-used : (ss : List SymbolTree) (q : Variable → Bool) (us ws : List Region) → ((v : Variable) → is_met ss ws v ≡ true → q v ≡ true) → used ss (kept q us) ws ≡ used ss us ws
kept-used ss q us [] h = refl
kept-used ss q us (w ∷ ws) h =
    let one = kept-used-of ss q us w
    (λ u e. h u (or-second (same_variable w.variable u) (overlap ss u w.variable) (is_met ss ws u) e))
    (λ u e. h u (ap (λ b. b || (overlap ss u w.variable || is_met ss ws u)) e)) in
    let more = kept-used ss q us ws (λ u e. h u (or-third (same_variable w.variable u) (overlap ss u w.variable) (is_met ss ws u) e)) in
    ap (λ (zs : List Region). (if is_write w.kind then zs else []) ++ used ss (kept q us) ws) one
    ∙ ap (λ (zs : List Region). if_write ss us w ++ zs) more

-- ---- OUT of a statement

beside-out : (ss : List SymbolTree) (t : Transformer) (leaving : Bool) (ins writes out ws : List Region) →
    used ss (all_out (all_composed t (beside ss ws ins)) ++ all_out (left_over leaving (all_composed t writes) (beside ss ws out))) ws
    ≡ used ss (all_out (all_composed t ins) ++ all_out (left_over leaving (all_composed t writes) out)) ws
beside-out ss t leaving ins writes out ws =
    let q = is_met ss ws in
    let a = all_out (all_composed t ins) in
    let b = all_out (left_over leaving (all_composed t writes) out) in
    let one : all_out (all_composed t (kept q ins)) ≡ kept q a = ap all_out (kept-composed q t ins) ∙ kept-all-out q (all_composed t ins) in
    let two : all_out (left_over leaving (all_composed t writes) (kept q out)) ≡ kept q b = ap all_out (kept-over q leaving (all_composed t writes) out) ∙ kept-all-out q (left_over leaving (all_composed t writes) out) in
    ap (λ (zs : List Region). used ss zs ws) (ap (λ (zs : List Region). zs ++ all_out (left_over leaving (all_composed t writes) (kept q out))) one ∙ (ap (λ (zs : List Region). kept q a ++ zs) two ∙ sym (kept-append q a b)))
    ∙ kept-used ss q (a ++ b) ws (λ v e. e)

pub first-beside : (k : KnownTree) (leaving : Bool) (n : ℕ) (r : Rest) (out own ins behind later new : List Region) → own ≡ writes_at k n → ins ≡ beside k.scope.symbols own r.ins → behind ≡ beside k.scope.symbols own out →
    later ≡ all_out (all_composed (k.does n) ins) ++ all_out (left_over leaving (all_composed (k.does n) r.writes) behind) → new ≡ used k.scope.symbols later own → new ≡ first_out k leaving n r out
first-beside k leaving n r out own ins behind later new a b c d e =
    let ss = k.scope.symbols in
    let t = k.does n in
    let full = λ (is os : List Region). all_out (all_composed t is) ++ all_out (left_over leaving (all_composed t r.writes) os) in
    e ∙ (ap (λ (zs : List Region). used ss zs own) (d ∙ (ap (λ (zs : List Region). full zs behind) b ∙ ap (full (beside ss own r.ins)) c))
    ∙ (beside-out ss t leaving r.ins r.writes out own ∙ ap (used ss (full r.ins out)) a))

-- nothing is left of nothing
pub nothing-left : (leaving : Bool) (ws out none : List Region) → out ≡ [] → none ≡ [] → none ≡ left_over leaving ws out
nothing-left true ws out none h g = g ∙ sym h
nothing-left false ws out none h g = g ∙ sym (ap (all_unwritten (all_trimmed ws)) h)

pub ruleset nothings = (nothing-left)
