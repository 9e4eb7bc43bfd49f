-- In the order of a graph each module stands once, and behind those that it calls.
use Rattle.std.proofs.Common.{◌≡◌, ℕ, zero, suc, Bool, true, false, List, [], ◌∷◌, ◌++◌, Option, Some, None, refl, sym, ap, ◌∙◌, subst, append_assoc}
use Rattle.std.specs.Prelude.{slice_get, bytes_eq, nat_eq, option_to_list, ◌||◌}
use Rattle.std.proofs.lemmas.Bool.{or_parts, or_left, or_right, eqb-true, eq-eqb}
use Rattle.std.proofs.lemmas.Slice.Eq.{bytes_eq-Decides}
use Rattle.f77_ast.specs.DeclTrees.{ParsedTree}
use Rattle.f77_ast.specs.Symbols.{SymbolTree, number_from}
use Rattle.call_graph.specs.declared.graph.Graph.{Graph}
use Rattle.call_graph.specs.Modules.{names_of}
use Rattle.call_graph.specs.Recursion.{callees_at}
use Rattle.call_graph.specs.Order.{holds, order_of, names_at}
use Rattle.call_graph.specs.Links.{callees_of}
use Rattle.call_graph.specs.Laws.{IsBottomUp}
use Rattle.call_graph.proofs.CycleLaws.{in_order}
use Rattle.f77_meaning.proofs.LinkedLaws.{linked_calls_fit}
use Rattle.laws_programs.specs.Storage.Programs.{IsLinked, IsModule}
use Rattle.laws_programs.proofs.Storage.ModuleLaws.{place_of_name}
use Rattle.laws_programs.specs.Storage.Below.{HasCall}
use Rattle.laws_programs.proofs.Storage.RankLaws.{split, all_hold}
use Rattle.laws_programs.proofs.Storage.EdgeLaws.{callees_have}
use Rattle.laws_programs.proofs.Storage.BelowLaws.{stands}
use Rattle.fx_lists.proofs.Texts.{unequal_texts}

-- no name of these
abbrev pub NotIn : List ℕ → List (List ℕ) → Type 0
NotIn x [] = Unit {0}
NotIn x (y ∷ ys) = (bytes_eq y x ≡ false) × NotIn x ys

-- each name stands once, and what a module of that name calls stands before it
abbrev pub Sorted : List ParsedTree → List (List SymbolTree) → List (List ℕ) → Type 0
Sorted ps sss [] = Unit {0}
Sorted ps sss (x ∷ xs) = NotIn x xs × ((i : ℕ) (p : ParsedTree) (ss : List SymbolTree) → IsModule ps sss i p ss → p.module_read.name ≡ x → (y : List ℕ) → HasCall p ss y → NotIn y (x ∷ xs)) × Sorted ps sss xs

-- ---- places

holds_front : (xs ys : List ℕ) (k : ℕ) → holds (xs ++ ys) k ≡ false → holds xs k ≡ false
holds_front [] ys k h = refl
holds_front (x ∷ xs) ys k h =
    let p = or_parts (nat_eq x k) (holds (xs ++ ys) k) h in
    ap (λ b. b || holds xs k) p.0 ∙ holds_front xs ys k p.1

holds_back : (xs : List ℕ) (a : ℕ) (ys : List ℕ) (k : ℕ) → holds (xs ++ a ∷ ys) k ≡ false → a ≡ k → ⊥
holds_back [] a ys k h e = let t = eq-eqb a k e in let z : true ≡ false = sym t ∙ (or_parts (nat_eq a k) (holds ys k) h).0 in cc
holds_back (x ∷ xs) a ys k h e = holds_back xs a ys k (or_parts (nat_eq x k) (holds (xs ++ a ∷ ys) k) h).1 e

-- what stands later in an order is new there
later : (css : List (List ℕ)) (order done : List ℕ) (a : ℕ) (rest : List ℕ) → IsBottomUp css order → order ≡ done ++ a ∷ rest → (b : ℕ) → holds rest b ≡ true → (holds done b ≡ false) × (a ≡ b → ⊥)
later css order done a rest up path b h =
    let s = split rest b h in
    let parts : order ≡ (done ++ a ∷ s.before) ++ b ∷ s.after = path ∙ ap (λ z. done ++ a ∷ z) s.parts ∙ sym (append_assoc done (a ∷ s.before) (b ∷ s.after)) in
    let new = (up (done ++ a ∷ s.before) b s.after parts).0 in
    (holds_front done (a ∷ s.before) b new, holds_back done a s.before b new)

-- ---- names at places

none_named : (names : List (List ℕ)) (x : List ℕ) (rest : List ℕ) → ((b : ℕ) → holds rest b ≡ true → (z : List ℕ) → slice_get names b ≡ Some z → z ≡ x → ⊥) → NotIn x (names_at rest names)
none_named names x [] f = tt
none_named names x (b ∷ rest) f = go (slice_get names b) refl (none_named names x rest (λ c h. f c (or_right (nat_eq b c) (holds rest c) h)))
  where
    go : (o : Option (List ℕ)) → slice_get names b ≡ o → NotIn x (names_at rest names) → NotIn x (option_to_list o ++ names_at rest names)
    go None e ih = ih
    go (Some z) e ih = (unequal_texts z x (f b (or_left (nat_eq b b) (holds rest b) (eq-eqb b b refl)) z e), ih)

-- a name is one of these
abbrev pub Among : List ℕ → List (List ℕ) → Type 0
Among x xs = (k : ℕ) × (slice_get xs k ≡ Some x)

behind : (x : List ℕ) (ys xs : List (List ℕ)) → Among x xs → Among x (ys ++ xs)
behind x [] xs h = h
behind x (y ∷ ys) xs h = let r = behind x ys xs h in (suc r.0, r.1)

-- the module at a place of a name
record NameAt (ps : List ParsedTree) (b : ℕ) (z : List ℕ) : Type 0 where
  parsed : ParsedTree
  is_module : slice_get ps b ≡ Some parsed
  named : parsed.module_read.name ≡ z

name_at : (ps : List ParsedTree) (b : ℕ) (z : List ℕ) → slice_get (names_of ps) b ≡ Some z → NameAt ps b z
name_at [] b z e = cc
name_at (p ∷ ps) zero z e = let same : p.module_read.name ≡ z = cc in record { parsed = p; is_module = refl; named = same }
name_at (p ∷ ps) (suc b) z e = let r = name_at ps b z e in record { parsed = r.parsed; is_module = r.is_module; named = r.named }

name_of_module : (ps : List ParsedTree) (i : ℕ) (p : ParsedTree) → slice_get ps i ≡ Some p → slice_get (names_of ps) i ≡ Some p.module_read.name
name_of_module [] i p e = cc
name_of_module (q ∷ ps) zero p e = let same : q ≡ p = cc in ap (λ z. Some z.module_read.name) same
name_of_module (q ∷ ps) (suc i) p e = name_of_module ps i p e

module _ (ps : List ParsedTree) (sss : List (List SymbolTree)) (g : Graph) (l : IsLinked ps sss g) where
  abbrev css : List (List ℕ)
  css = callees_of ps sss

  abbrev names : List (List ℕ)
  names = names_of ps

  up : IsBottomUp (callees_of ps sss) (order_of (callees_of ps sss))
  up = (in_order ps sss g l.many l.links).1

  -- a name has the place of its module
  number_of_name : (b : ℕ) (z : List ℕ) → slice_get (names_of ps) b ≡ Some z → number_from 0 (names_of ps) z ≡ Some b
  number_of_name b z e = let r = name_at ps b z e in ap (number_from 0 (names_of ps)) (sym r.named) ∙ place_of_name ps sss g l.links b r.parsed r.is_module

  same_number : (b : ℕ) (z : List ℕ) (c : ℕ) → slice_get (names_of ps) b ≡ Some z → number_from 0 (names_of ps) z ≡ Some c → b ≡ c
  same_number b z c e h = let both : Some b ≡ Some c = sym (number_of_name b z e) ∙ h in cc

  -- the place of what a module calls, which stands before it
  record CalleeAt (i : ℕ) (y : List ℕ) : Type 0 where
    at : ℕ
    number : number_from 0 (names_of ps) y ≡ Some at
    called : holds (callees_at (callees_of ps sss) i) at ≡ true

  callee_at : (i : ℕ) (p : ParsedTree) (ss : List SymbolTree) → IsModule ps sss i p ss → (y : List ℕ) → HasCall p ss y → CalleeAt i y
  callee_at i p ss m y c =
      let f = linked_calls_fit ps sss g l.links i p ss m.parsed m.table c.at c.call c.is_call in
      let number = ap (number_from 0 (names_of ps)) (sym f.is_named) ∙ place_of_name ps sss g l.links f.at f.callee f.is_module in
      record { at = f.at; number = ap (number_from 0 (names_of ps)) (sym c.is_named) ∙ number; called = callees_have (names_of ps) ps sss i p ss m c.at f.at c.call c.is_call number }

  sorted : (rest done : List ℕ) → order_of (callees_of ps sss) ≡ done ++ rest → Sorted ps sss (names_at rest (names_of ps))
  sorted [] done e = tt
  sorted (a ∷ rest) done e = go (slice_get (names_of ps) a) refl (sorted rest (done ++ a ∷ []) (e ∙ sym (append_assoc done (a ∷ []) rest)))
    where
      new : (b : ℕ) → holds rest b ≡ true → (holds done b ≡ false) × (a ≡ b → ⊥)
      new b h = later (callees_of ps sss) (order_of (callees_of ps sss)) done a rest up e b h

      ready : (holds done a ≡ false) × ((c : ℕ) → holds (callees_at (callees_of ps sss) a) c ≡ true → holds done c ≡ true)
      ready = let u = up done a rest e in (u.0, λ c h. all_hold (λ d. holds done d) (callees_at (callees_of ps sss) a) c u.1 h)

      absent : (k : ℕ) → holds done k ≡ true → holds done k ≡ false → ⊥
      absent k h n = let z : true ≡ false = sym h ∙ n in cc

      calls : (x : List ℕ) → slice_get (names_of ps) a ≡ Some x → (i : ℕ) (p : ParsedTree) (ss : List SymbolTree) → IsModule ps sss i p ss → p.module_read.name ≡ x → (y : List ℕ) → HasCall p ss y → NotIn y (x ∷ names_at rest (names_of ps))
      calls x q i p ss m n y c =
          let here : a ≡ i = same_number a x i q (ap (number_from 0 (names_of ps)) (sym n) ∙ place_of_name ps sss g l.links i p m.parsed) in
          let r = callee_at i p ss m y c in
          let before : holds done r.at ≡ true = ready.1 r.at (ap (λ k. holds (callees_at (callees_of ps sss) k) r.at) here ∙ r.called) in (
            unequal_texts x y (λ w. let same : a ≡ r.at = same_number a x r.at q (ap (number_from 0 (names_of ps)) w ∙ r.number) in absent r.at before (ap (holds done) (sym same) ∙ ready.0)),
            none_named (names_of ps) y rest (λ b h z f w. let same : b ≡ r.at = same_number b z r.at f (ap (number_from 0 (names_of ps)) w ∙ r.number) in absent r.at before (ap (holds done) (sym same) ∙ (new b h).0)),
          )

      go : (o : Option (List ℕ)) → slice_get (names_of ps) a ≡ o → Sorted ps sss (names_at rest (names_of ps)) → Sorted ps sss (option_to_list o ++ names_at rest (names_of ps))
      go None q ih = ih
      go (Some x) q ih = (
        none_named (names_of ps) x rest (λ b h z f w. (new b h).1 (same_number a x b q (ap (number_from 0 (names_of ps)) (sym w) ∙ number_of_name b z f))),
        calls x q,
        ih,
      )

  -- the order of the graph is such
  pub order_sorted : Sorted ps sss g.order
  order_sorted = subst (Sorted ps sss) (sym (in_order ps sss g l.many l.links).0) (sorted (order_of (callees_of ps sss)) [] refl)

  -- ---- each module stands there

  name_stands : (order : List ℕ) (i : ℕ) (x : List ℕ) → holds order i ≡ true → slice_get (names_of ps) i ≡ Some x → Among x (names_at order (names_of ps))
  name_stands [] i x h e = cc
  name_stands (a ∷ rest) i x h e = go (nat_eq a i) refl h (λ q. behind x (option_to_list (slice_get (names_of ps) a)) (names_at rest (names_of ps)) (name_stands rest i x q e))
    where
      go : (b : Bool) → nat_eq a i ≡ b → (b || holds rest i) ≡ true → (holds rest i ≡ true → Among x (names_at (a ∷ rest) (names_of ps))) → Among x (names_at (a ∷ rest) (names_of ps))
      go true q h ih = subst (λ o. Among x (option_to_list o ++ names_at rest (names_of ps))) (sym (ap (slice_get (names_of ps)) (eqb-true a i q) ∙ e)) (zero, refl)
      go false q h ih = ih h

  pub each_stands : (i : ℕ) (p : ParsedTree) → slice_get ps i ≡ Some p → Among p.module_read.name g.order
  each_stands i p e =
      subst (Among p.module_read.name) (sym (in_order ps sss g l.many l.links).0)
      (name_stands (order_of (callees_of ps sss)) i p.module_read.name (stands ps sss g l i p e) (name_of_module ps i p e))
