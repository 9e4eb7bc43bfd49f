-- A CALL in a program that is read: variables of blocks and saved locals of what is called, as its caller has them.
use Rattle.std.proofs.Common.{◌≡◌, ℕ, zero, suc, ◌-◌, ℤ, List, [], ◌∷◌, length, map, Option, Some, None, Bool, true, false, Ok, refl, sym, ap, ap₂, ◌∙◌, arith}
use Rattle.std.specs.Prelude.{if◌then◌else◌, slice_get}
use Rattle.std.proofs.lemmas.Bool.{and_parts}
use Rattle.f77_ast.specs.Trees.{ExprTree}
use Rattle.f77_ast.specs.DeclTrees.{ParsedTree}
use Rattle.f77_ast.specs.Calls.{Dummy}
use Rattle.f77_ast.specs.Places.{Place}
use Rattle.f77_ast.specs.declared.constant.Constant.TheVariants as constant
use Rattle.f77_ast.specs.Constants.{const_value}
use Rattle.f77_ast.specs.declared.symbol.Place.TheVariants as place
use Rattle.f77_ast.specs.Symbols.{BoundTree, SymbolTree, value_in}
use Rattle.f77_ast.specs.Shared.{symbol_at}
use Rattle.storage_layout.specs.Symbols.{symbols_of}
use Rattle.laws_programs.specs.SymbolTables.Laws.{DummiesFirst}
use Rattle.laws_programs.proofs.SymbolTables.DummyLaws.{dummies_come_first}
use Rattle.in_out_regions.specs.effects.Callee.{same_number, same_high, same_bound, same_bounds, is_like, first_like}
use Rattle.f77_meaning.specs.Areas.{Numbering, unit_at, block}
use Rattle.f77_meaning.specs.Modules.{Known, as_number, constant_high, dim_of, dummies_from, fixed, fixed_maybe, fixed_place, laid_at}
use Rattle.laws_analyses.specs.Calls.Parts.{NoDummy}
use Rattle.laws_analyses.proofs.DummyLaws.{told}
use Rattle.laws_analyses.specs.Regions.Claims.{elements_of}
use Rattle.laws_programs.proofs.Effects.Like.{same_const_value, like_found}
use Rattle.f77_ast.proofs.StorageLaws.{at_number}

-- ---- dimensions by bounds that are the same

module _ (cs ss : List SymbolTree) where
  high_same : (a b : Option ExprTree) → same_high (value_in cs) a (value_in ss) b ≡ true → constant_high cs a ≡ constant_high ss b
  high_same None b e = cc
  high_same (Some a) None e = cc
  high_same (Some a) (Some b) e = ap (λ w. Some (as_number w)) (same_const_value (const_value (value_in cs) a) (const_value (value_in ss) b) e)

  dim_same : (a b : BoundTree) → same_bound (value_in cs) a (value_in ss) b ≡ true → dim_of cs a ≡ dim_of ss b
  dim_same a b e =
      let q = and_parts (same_number (const_value (value_in cs) a.low) (const_value (value_in ss) b.low)) (same_high (value_in cs) a.high (value_in ss) b.high) e in
      let low = ap as_number (same_const_value (const_value (value_in cs) a.low) (const_value (value_in ss) b.low) q.0) in
      let high = high_same a.high b.high q.1 in
      λ i. record { low = low i; high = high i }

  pub dims_same : (as' bs : List BoundTree) → same_bounds (value_in cs) as' (value_in ss) bs ≡ true → map (dim_of cs) as' ≡ map (dim_of ss) bs
  dims_same [] [] e = refl
  dims_same [] (b ∷ bs) e = cc
  dims_same (a ∷ as') [] e = cc
  dims_same (a ∷ as') (b ∷ bs) e =
      let q = and_parts (same_bound (value_in cs) a (value_in ss) b) (same_bounds (value_in cs) as' (value_in ss) bs) e in
      ap₂ (λ x xs. x ∷ xs) (dim_same a b q.0) (dims_same as' bs q.1)

-- ---- places with the same elements

pub same_elements : (p q : Place) → p.first ≡ q.first → p.extent ≡ q.extent → p.dims ≡ q.dims → (phi : ℕ → ℤ) → elements_of p phi ≡ elements_of q phi
same_elements p q a b c phi = λ i. elements_of (record { first = a i; extent = b i; tag = p.tag; dims = c i }) phi

-- ---- the first that is like it, with its bounds

bounds_alike : (n j : ℕ) (ts : List SymbolTree) (b : List ℕ) (o : ℕ) (cs : List SymbolTree) (s : SymbolTree) (ss : List SymbolTree) (t : SymbolTree) → first_like n ts b o cs s ss ≡ Some j → slice_get ts (j - n) ≡ Some t → same_bounds (value_in cs) s.bounds (value_in ss) t.bounds ≡ true
bounds_alike n j [] b o cs s ss t e h = cc
bounds_alike n j (u ∷ ts) b o cs s ss t e h = go (is_like b o cs s ss u) refl e (bounds_alike (suc n) j ts b o cs s ss t)
  where
    go : (c : Bool) → is_like b o cs s ss u ≡ c → (if c then Some n else first_like (suc n) ts b o cs s ss) ≡ Some j →
        (first_like (suc n) ts b o cs s ss ≡ Some j → slice_get ts (j - suc n) ≡ Some t → same_bounds (value_in cs) s.bounds (value_in ss) t.bounds ≡ true) → same_bounds (value_in cs) s.bounds (value_in ss) t.bounds ≡ true
    go true q f ih =
        let here : n ≡ j = cc in
        let z : j - n ≡ zero = omega (arith, here) in
        let same : Some u ≡ Some t = sym (ap (slice_get (u ∷ ts)) z) ∙ h in
        let one : u ≡ t = cc in
        ap (λ (x : SymbolTree). same_bounds (value_in cs) s.bounds (value_in ss) x.bounds) (sym one) ∙ (and_parts _ (same_bounds (value_in cs) s.bounds (value_in ss) u.bounds) q).1
    go false q f ih =
        let r = like_found (suc n) j ts b o cs s ss f in
        let low = r.1 in
        let z : j - n ≡ suc (j - suc n) = omega (arith, low) in
        ih f (sym (ap (slice_get (u ∷ ts)) z) ∙ h)

-- ---- a module

module _ (p : ParsedTree) (ss : List SymbolTree) (laid : symbols_of p ≡ Ok ss) where
  first : DummiesFirst 1 (length p.module_read.dummies) ss
  first = dummies_come_first p ss laid

  -- a variable of a block is no dummy
  pub block_no_dummy : (n : ℕ) (s : SymbolTree) (y : List ℕ) (o : ℕ) → symbol_at ss n ≡ Some s → s.place ≡ place.Block y o → NoDummy (dummies_from 1 ss) n
  block_no_dummy n s y o e b d =
      let t = told ss (length p.module_read.dummies) first d.at d.dummy d.is_dummy in
      let same : t.symbol ≡ s = (let z : Some t.symbol ≡ Some s = sym t.is_symbol ∙ (ap (symbol_at ss) d.symbol ∙ e) in cc) in
      let z : place.Dummy (suc d.at) ≡ place.Block y o = sym t.lies ∙ (ap (λ (x : SymbolTree). x.place) same ∙ b) in
      cc

-- where a variable of a block lies
pub laid_in : (g : Numbering) (k : Known) (n : ℕ) (s : SymbolTree) (y : List ℕ) (o : ℕ) → symbol_at k.symbols n ≡ Some s → s.place ≡ place.Block y o → fixed g k n ≡ laid_at (unit_at g (block y) o) k.symbols s
laid_in g k n s y o e b = ap (fixed_maybe g k.read.name k.symbols) e ∙ ap (fixed_place g k.read.name k.symbols s) b

-- ---- the caller's variable that is like one of a block

pub record LikeIt (g : Numbering) (h k : Known) (m n : ℕ) (y : List ℕ) (o : ℕ) : Type 0 where
  pub symbol : SymbolTree
  pub is_symbol : symbol_at h.symbols m ≡ Some symbol
  pub lies : symbol.place ≡ place.Block y o
  pub elements : (phi : ℕ → ℤ) → elements_of (fixed g h m) phi ≡ elements_of (fixed g k n) phi

pub like_it : (g : Numbering) (h k : Known) (n m : ℕ) (s : SymbolTree) (y : List ℕ) (o : ℕ) → symbol_at k.symbols n ≡ Some s → s.place ≡ place.Block y o → first_like 1 h.symbols y o k.symbols s h.symbols ≡ Some m → LikeIt g h k m n y o
like_it g h k n m s y o e b f =
    let r = like_found 1 m h.symbols y o k.symbols s h.symbols f in
    let there : symbol_at h.symbols m ≡ Some r.0 = at_number h.symbols m r.0 r.1 r.2 in
    let dims : map (dim_of k.symbols) s.bounds ≡ map (dim_of h.symbols) r.0.bounds = dims_same k.symbols h.symbols s.bounds r.0.bounds (bounds_alike 1 m h.symbols y o k.symbols s h.symbols r.0 f r.2) in
    record {
      symbol = r.0;
      is_symbol = there;
      lies = r.3.lies;
      elements = λ phi.
          ap (λ (q : Place). elements_of q phi) (laid_in g h m r.0 y o there r.3.lies)
          ∙ (same_elements (laid_at (unit_at g (block y) o) h.symbols r.0) (laid_at (unit_at g (block y) o) k.symbols s) refl (sym r.3.size) (sym dims) phi
          ∙ ap (λ (q : Place). elements_of q phi) (sym (laid_in g k n s y o e b)));
    }
