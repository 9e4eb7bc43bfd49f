-- The modules of a program by their names, and its subroutines in an order.
use Rattle.std.proofs.Common.{◌≡◌, ℕ, zero, suc, Bool, true, false, List, [], ◌∷◌, ◌++◌, map, Some, refl, sym, ap, ◌∙◌, arith}
use Rattle.std.specs.Prelude.{if◌then◌else◌, slice_get, bytes_eq, option_to_list}
use Rattle.std.proofs.lemmas.Slice.Eq.{bytes_eq-Decides}
use Rattle.f77_ast.specs.DeclTrees.{ParsedTree}
use Rattle.f77_ast.specs.Symbols.{SymbolTree}
use Rattle.call_graph.specs.declared.graph.Graph.{Graph}
use Rattle.f77_meaning.specs.Modules.{Known, known_of}
use Rattle.module_phases.specs.ScalarPhases.{module_of}
use Rattle.f77_meaning.specs.Linked.{routine, named, subroutines_among, subroutines}
use Rattle.laws_programs.specs.Storage.Programs.{IsLinked}
use Rattle.laws_programs.proofs.Storage.ModuleLaws.{names_tell_modules}
use Rattle.call_graph.specs.CallsIn.{Each}
use Rattle.laws_analyses.specs.Analysed.{module_named}
use Rattle.laws_analyses.proofs.UnitLaws.{module_at}
use Rattle.call_graph.proofs.EachLaws.{each_more, each_joined}

map-append : {A B : Type 0} (f : A → B) (xs ys : List A) → map f (xs ++ ys) ≡ map f xs ++ map f ys
map-append f [] ys = refl
map-append f (x ∷ xs) ys = ap (λ zs. f x ∷ zs) (map-append f xs ys)

-- a module is one of these
pub record IsIn (ks : List Known) (k : Known) : Type 0 where
  pub at : ℕ
  pub is_module : slice_get ks at ≡ Some k

behind : (l : Known) (ks : List Known) (k : Known) → IsIn ks k → IsIn (l ∷ ks) k
behind l ks k h = record { at = suc h.at; is_module = h.is_module }

each_behind : (l : Known) (ks xs : List Known) → Each (IsIn ks) xs → Each (IsIn (l ∷ ks)) xs
each_behind l ks xs h = each_more (IsIn ks) (IsIn (l ∷ ks)) xs (λ k i. behind l ks k i) h

-- those of a name are
named_in : (ks : List Known) (x : List ℕ) → Each (IsIn ks) (named ks x)
named_in [] x = tt
named_in (k ∷ ks) x = go (bytes_eq k.read.name x) (each_behind k ks (named ks x) (named_in ks x))
  where
    go : (b : Bool) → Each (IsIn (k ∷ ks)) (named ks x) → Each (IsIn (k ∷ ks)) (if b then k ∷ named ks x else named ks x)
    go true h = (record { at = zero; is_module = refl }, h)
    go false h = h

pub among_in : (P : Known → Type 0) (xs : List Known) → Each P xs → Each P (subroutines_among xs)
among_in P [] h = tt
among_in P (k ∷ ks) h = go k.read.main (among_in P ks h.1)
  where
    go : (b : Bool) → Each P (subroutines_among ks) → Each P (if b then subroutines_among ks else k ∷ subroutines_among ks)
    go true i = i
    go false i = (h.0, i)

-- the modules of these names
abbrev pub modules_at : List Known → List (List ℕ) → List Known
modules_at ks [] = []
modules_at ks (x ∷ xs) = option_to_list (module_of ks x) ++ modules_at ks xs

-- the subroutines of an order, the last one first
abbrev pub subs : List Known → List (List ℕ) → List Known
subs ks [] = []
subs ks (x ∷ xs) = subs ks xs ++ subroutines_among (named ks x)

pub subs_in : (ks : List Known) (xs : List (List ℕ)) → Each (IsIn ks) (subs ks xs)
subs_in ks [] = tt
subs_in ks (x ∷ xs) = each_joined (IsIn ks) (subs ks xs) (subroutines_among (named ks x)) (subs_in ks xs) (among_in (IsIn ks) (named ks x) (named_in ks x))

pub subs_are : (ks : List Known) (g : Graph) (xs : List (List ℕ)) → map (routine ks g) (subs ks xs) ≡ subroutines ks g xs
subs_are ks g [] = refl
subs_are ks g (x ∷ xs) = map-append (routine ks g) (subs ks xs) (subroutines_among (named ks x)) ∙ ap (λ zs. zs ++ map (routine ks g) (subroutines_among (named ks x))) (subs_are ks g xs)

-- ---- names

module _ (ps : List ParsedTree) (sss : List (List SymbolTree)) (g : Graph) (l : IsLinked ps sss g) where
  same_module : (i j : ℕ) (k m : Known) → slice_get (known_of ps sss) i ≡ Some k → slice_get (known_of ps sss) j ≡ Some m → k.read.name ≡ m.read.name → i ≡ j
  same_module i j k m e h n =
      let r = module_at ps sss i k e in
      let s = module_at ps sss j m h in
      names_tell_modules ps sss g l i j r.parsed s.parsed r.table s.table r.is_module s.is_module (ap (λ z. z.read.name) r.same ∙ n ∙ ap (λ z. z.read.name) (sym s.same))

  first_named : (xs : List Known) → ((i j : ℕ) (k m : Known) → slice_get xs i ≡ Some k → slice_get xs j ≡ Some m → k.read.name ≡ m.read.name → i ≡ j) → (i : ℕ) (k : Known) → slice_get xs i ≡ Some k → module_named xs k.read.name ≡ k
  first_named [] once i k e = cc
  first_named (x ∷ xs) once zero k e =
      let same : x ≡ k = cc in
      ap (λ c. if c then x else module_named xs k.read.name) ((bytes_eq-Decides x.read.name k.read.name).1 (ap (λ z. z.read.name) same)) ∙ same
  first_named (x ∷ xs) once (suc i) k e = go (bytes_eq x.read.name k.read.name) refl (first_named xs (λ a c u v p q n. (let z = once (suc a) (suc c) u v p q n in omega (arith, z))) i k e)
    where
      go : (c : Bool) → bytes_eq x.read.name k.read.name ≡ c → module_named xs k.read.name ≡ k → (if c then x else module_named xs k.read.name) ≡ k
      go true q ih = let z = once zero (suc i) x k refl e ((bytes_eq-Decides x.read.name k.read.name).0 q) in absurd (omega (arith, z))
      go false q ih = ih

  -- the module of its name
  pub module_named_is : (i : ℕ) (k : Known) → slice_get (known_of ps sss) i ≡ Some k → module_named (known_of ps sss) k.read.name ≡ k
  module_named_is i k e = first_named (known_of ps sss) same_module i k e
