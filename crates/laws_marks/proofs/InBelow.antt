-- Each CALL of a module of a program is of a subroutine that stands behind it.
use Rattle.std.proofs.Common.{◌≡◌, ◌⊎◌, inl, inr, ⊎_elim, ℕ, zero, suc, Bool, true, false, List, [], ◌∷◌, ◌++◌, append_assoc, map, Option, Some, None, refl, sym, ap, ◌∙◌, subst, true≢false}
use Rattle.std.specs.Prelude.{if◌then◌else◌, slice_get, bytes_eq}
use Rattle.std.proofs.lemmas.Slice.Eq.{bytes_eq-Decides}
use Rattle.affine_systems.specs.declared.row.System.{System}
use Rattle.f77_ast.specs.DeclTrees.{ParsedTree}
use Rattle.f77_ast.specs.Symbols.{SymbolTree}
use Rattle.call_graph.specs.declared.graph.Graph.{Graph}
use Rattle.f77_meaning.specs.Modules.{Known, known_of}
use Rattle.f77_meaning.specs.Linked.{named, subroutines_among}
use Rattle.f77_meaning.proofs.LinkedLaws.{linked_calls_fit}
use Rattle.preconditions.specs.transformers.Given.{Callees}
use Rattle.laws_programs.specs.Storage.Below.{HasCall}
use Rattle.laws_programs.specs.Storage.Programs.{IsLinked, IsModule, known}
use Rattle.laws_programs.proofs.Storage.ModuleLaws.{known_module}
use Rattle.call_graph.specs.CallsIn.{Each}
use Rattle.laws_analyses.specs.Calls.Parts.{Part}
use Rattle.laws_analyses.specs.Calls.Sites.{lookup}
use Rattle.laws_analyses.specs.Parts.{part_of}
use Rattle.laws_analyses.proofs.Modules.{subs, among_in as among_so}
use Rattle.laws_analyses.proofs.Orders.{Among, NotIn, Sorted, order_sorted, each_stands}

-- ---- names in lists

not_in : (xs : List (List ℕ)) (y : List ℕ) → Among y xs → NotIn y xs → ⊥
not_in [] y h n = (let z = h.1 in cc)
not_in (x ∷ xs) y (zero, e) n = (let same : x ≡ y = cc in true≢false (sym ((bytes_eq-Decides x y).1 same) ∙ n.0))
not_in (x ∷ xs) y (suc k, e) n = not_in xs y (k, e) n.1

in_front : (done xs : List (List ℕ)) (y : List ℕ) → Among y (done ++ xs) → NotIn y xs → Among y done
in_front [] xs y h n = absurd (not_in xs y h n)
in_front (d ∷ done) xs y (zero, e) n = (zero, e)
in_front (d ∷ done) xs y (suc k, e) n = (let r = in_front done xs y (k, e) n in (suc r.0, r.1))

either : (done : List (List ℕ)) (x y : List ℕ) → Among y (done ++ x ∷ []) → (Among y done) ⊎ (x ≡ y)
either [] x y (zero, e) = (let same : x ≡ y = cc in inr same)
either [] x y (suc k, e) = cc
either (d ∷ done) x y (zero, e) = inl (zero, e)
either (d ∷ done) x y (suc k, e) = ⊎_elim (λ r. inl (suc r.0, r.1)) (λ r. inr r) (either done x y (k, e))

named_so : (ks : List Known) (x : List ℕ) → Each (λ k. k.read.name ≡ x) (named ks x)
named_so [] x = tt
named_so (k ∷ ks) x = go (bytes_eq k.read.name x) refl (named_so ks x)
  where
    go : (b : Bool) → bytes_eq k.read.name x ≡ b → Each (λ z. z.read.name ≡ x) (named ks x) → Each (λ z. z.read.name ≡ x) (if b then k ∷ named ks x else named ks x)
    go true e h = ((bytes_eq-Decides k.read.name x).0 e, h)
    go false e h = h

module _ (ps : List ParsedTree) (sss : List (List SymbolTree)) (g : Graph) (l : IsLinked ps sss g) (cs : Callees) (entry : Known → System) where
  abbrev ks : List Known
  ks = known_of ps sss

  abbrev part : Known → Part
  part k = part_of (known_of ps sss) g cs (entry k) k

  -- ---- the part of a name

  pub record Stands (xs : List Known) (y : List ℕ) : Type 0 where
    pub item : Part
    pub found : lookup (map (λ z. part_of (known_of ps sss) g cs (entry z) z) xs) y ≡ Some item

  stand_one : (z : Known) (xs : List Known) (y : List ℕ) → Stands xs y → Stands (z ∷ xs) y
  stand_one z xs y s = go (bytes_eq y z.read.name) refl
    where
      go : (b : Bool) → bytes_eq y z.read.name ≡ b → Stands (z ∷ xs) y
      go true e = record { item = part z; found = ap (λ c. if c then Some (part z) else lookup (map part xs) y) e }
      go false e = record { item = s.item; found = ap (λ c. if c then Some (part z) else lookup (map part xs) y) e ∙ s.found }

  stand_more : (zs xs : List Known) (y : List ℕ) → Stands xs y → Stands (zs ++ xs) y
  stand_more [] xs y s = s
  stand_more (z ∷ zs) xs y s = stand_one z (zs ++ xs) y (stand_more zs xs y s)

  stand_front : (zs xs : List Known) (y : List ℕ) → Stands zs y → Stands (zs ++ xs) y
  stand_front [] xs y s = (let e = s.found in cc)
  stand_front (z ∷ zs) xs y s = go (bytes_eq y z.read.name) refl (λ w. stand_front zs xs y w)
    where
      go : (b : Bool) → bytes_eq y z.read.name ≡ b → (Stands zs y → Stands (zs ++ xs) y) → Stands (z ∷ (zs ++ xs)) y
      go true e ih = record { item = part z; found = ap (λ c. if c then Some (part z) else lookup (map part (zs ++ xs)) y) e }
      go false e ih =
          let s' : Stands zs y = record { item = s.item; found = sym (ap (λ c. if c then Some (part z) else lookup (map part zs) y) e) ∙ s.found } in
          let r = ih s' in
          record { item = r.item; found = ap (λ c. if c then Some (part z) else lookup (map part (zs ++ xs)) y) e ∙ r.found }

  -- a subroutine stands among those of its name
  sub_stands : (qs : List Known) (j : ℕ) (k : Known) (x : List ℕ) → slice_get qs j ≡ Some k → k.read.main ≡ false → k.read.name ≡ x → Stands (subroutines_among (named qs x)) x
  sub_stands [] j k x e m n = cc
  sub_stands (z ∷ qs) zero k x e m n = (let same : z ≡ k = cc in here (ap (λ (w : Known). w.read.main) same ∙ m) (ap (λ (w : Known). w.read.name) same ∙ n))
    where
      here : z.read.main ≡ false → z.read.name ≡ x → Stands (subroutines_among (if bytes_eq z.read.name x then z ∷ named qs x else named qs x)) x
      here m' n' =
          subst (λ b. Stands (subroutines_among (if b then z ∷ named qs x else named qs x)) x) (sym ((bytes_eq-Decides z.read.name x).1 n'))
          (subst (λ b. Stands (if b then subroutines_among (named qs x) else z ∷ subroutines_among (named qs x)) x) (sym m')
          (record { item = part z; found = ap (λ c. if c then Some (part z) else lookup (map part (subroutines_among (named qs x))) x) ((bytes_eq-Decides x z.read.name).1 (sym n')) }))
  sub_stands (z ∷ qs) (suc j) k x e m n = go (bytes_eq z.read.name x) (sub_stands qs j k x e m n)
    where
      inner : (b : Bool) → Stands (subroutines_among (named qs x)) x → Stands (if b then subroutines_among (named qs x) else z ∷ subroutines_among (named qs x)) x
      inner true s = s
      inner false s = stand_one z (subroutines_among (named qs x)) x s

      go : (b : Bool) → Stands (subroutines_among (named qs x)) x → Stands (subroutines_among (if b then z ∷ named qs x else named qs x)) x
      go true s = inner z.read.main s
      go false s = s

  -- ---- what modules call

  -- the name of a subroutine
  record IsSub (y : List ℕ) : Type 0 where
    at : ℕ
    parsed : ParsedTree
    table : List SymbolTree
    is_module : IsModule ps sss at parsed table
    is_named : parsed.module_read.name ≡ y
    is_sub : parsed.module_read.main ≡ false

  called_sub : (i : ℕ) (p : ParsedTree) (ss : List SymbolTree) → IsModule ps sss i p ss → (y : List ℕ) → HasCall p ss y → IsSub y
  called_sub i p ss m y c =
      let f = linked_calls_fit ps sss g l.links i p ss m.parsed m.table c.at c.call c.is_call in
      record { at = f.at; parsed = f.callee; table = f.table; is_module = record { parsed = f.is_module; table = f.has_table }; is_named = f.is_named ∙ c.is_named; is_sub = f.is_subroutine }

  sub_among : (y : List ℕ) → IsSub y → Among y g.order
  sub_among y s = subst (λ z. Among z g.order) s.is_named (each_stands ps sss g l s.at s.parsed s.is_module.parsed)

  -- behind each module stands what it calls
  abbrev pub AllBelow : List Known → Type 0
  AllBelow [] = Unit {0}
  AllBelow (k ∷ xs) = ((i : ℕ) (p : ParsedTree) (ss : List SymbolTree) → IsModule ps sss i p ss → known p ss ≡ k → (y : List ℕ) → HasCall p ss y → Stands xs y) × AllBelow xs

  abbrev Has : List (List ℕ) → List Known → Type 0
  Has done acc = (y : List ℕ) → Among y done → IsSub y → Stands acc y

  module _ (x : List ℕ) (xs done : List (List ℕ)) (parts : g.order ≡ done ++ x ∷ xs) (calls : (i : ℕ) (p : ParsedTree) (ss : List SymbolTree) → IsModule ps sss i p ss → p.module_read.name ≡ x → (y : List ℕ) → HasCall p ss y → NotIn y (x ∷ xs)) (acc : List Known) (has : Has done acc) where
    one_below : (zs : List Known) → Each (λ k. k.read.name ≡ x) zs → AllBelow acc → AllBelow (zs ++ acc)
    one_below [] h b = b
    one_below (z ∷ zs) h b = (
      (λ i p ss m e y c.
          (let sub = called_sub i p ss m y c in
          stand_more zs acc y (has y (in_front done (x ∷ xs) y (subst (Among y) parts (sub_among y sub)) (calls i p ss m (ap (λ (k : Known). k.read.name) e ∙ h.0) y c)) sub))),
      one_below zs h.1 b,
    )

    more_has : Has (done ++ x ∷ []) (subroutines_among (named ks x) ++ acc)
    more_has y a s = go (either done x y a)
      where
        go : (Among y done) ⊎ (x ≡ y) → Stands (subroutines_among (named ks x) ++ acc) y
        go (inl b) = stand_more (subroutines_among (named ks x)) acc y (has y b s)
        go (inr e) =
            let at = known_module ps sss s.at s.parsed s.table s.is_module in
            subst (λ z. Stands (subroutines_among (named ks x) ++ acc) z) e
            (stand_front (subroutines_among (named ks x)) acc x (sub_stands ks s.at (known s.parsed s.table) x at s.is_sub (s.is_named ∙ sym e)))

  -- with all of an order looked at
  record Looked (xs : List (List ℕ)) (acc : List Known) : Type 0 where
    below : AllBelow (subs (known_of ps sss) xs ++ acc)
    has : Has g.order (subs (known_of ps sss) xs ++ acc)

  look : (xs done : List (List ℕ)) (acc : List Known) → g.order ≡ done ++ xs → Sorted ps sss xs → AllBelow acc → Has done acc → Looked xs acc
  look [] done acc e s b h = record { below = b; has = λ y a. h y (subst (Among y) (e ∙ nil_right done) a) }
    where
      nil_right : (ys : List (List ℕ)) → ys ++ [] ≡ ys
      nil_right [] = refl
      nil_right (y ∷ ys) = ap (λ zs. y ∷ zs) (nil_right ys)
  look (x ∷ xs) done acc e s b h =
      let mine = subroutines_among (named (known_of ps sss) x) in
      let r = look xs (done ++ x ∷ []) (mine ++ acc) (e ∙ sym (append_assoc done (x ∷ []) xs)) s.2 (one_below x xs done e s.1 acc h mine (among_so (λ k. k.read.name ≡ x) (named (known_of ps sss) x) (named_so (known_of ps sss) x)) b) (more_has x xs done e s.1 acc h) in
      let same : subs (known_of ps sss) xs ++ (mine ++ acc) ≡ (subs (known_of ps sss) xs ++ mine) ++ acc = sym (append_assoc (subs (known_of ps sss) xs) mine acc) in
      record { below = subst AllBelow same r.below; has = subst (λ zs. Has g.order zs) same r.has }

  nil_right : (ys : List Known) → ys ++ [] ≡ ys
  nil_right [] = refl
  nil_right (y ∷ ys) = ap (λ zs. y ∷ zs) (nil_right ys)

  looked : Looked g.order []
  looked = look g.order [] [] refl (order_sorted ps sss g l) tt (λ y a s. absurd (not_in [] y a tt))

  pub subs_below : AllBelow (subs (known_of ps sss) g.order)
  subs_below = subst AllBelow (nil_right (subs (known_of ps sss) g.order)) looked.below

  -- of every module, as the main program is
  pub all_stand : (i : ℕ) (p : ParsedTree) (ss : List SymbolTree) → IsModule ps sss i p ss → (y : List ℕ) → HasCall p ss y → Stands (subs (known_of ps sss) g.order) y
  all_stand i p ss m y c =
      let sub = called_sub i p ss m y c in
      subst (λ zs. Stands zs y) (nil_right (subs (known_of ps sss) g.order)) (looked.has y (sub_among y sub) sub)
