-- The walk: each result once, behind its needs.
use Rattle.std.proofs.Common.{◌≡◌, ℕ, zero, suc, ◌+◌, ◌-◌, ◌*◌, ◌<◌, ◌≤◌, Bool, true, false, ◌&&◌, ◌||◌, ◌⊎◌, inl, inr, List, [], ◌∷◌, ◌++◌, length, refl, sym, ap, ◌∙◌, subst, arith}
use Rattle.std.specs.Prelude.{nat_lt, fold, if◌then◌else◌}
use Rattle.std.specs.List.{list_any, list_all}
use Rattle.std.proofs.lemmas.Bool.{ltb-true, lt-ltb, and_parts, and_from}
use Rattle.call_graph.specs.declared.graph.Graph.{Graph}
use Rattle.pipsmake_rules.specs.declared.key.Key.{Key}
use Rattle.pipsmake_rules.specs.Keys.{holds}
use Rattle.pipsmake_rules.specs.Needs.{needs_of}
use Rattle.pipsmake_rules.specs.Walk.{walk_from, depth_of, walk_of}
use Rattle.pipsmake_rules.specs.Laws.{is_bottom_up, StandBehindNeeds, EndsWith, WalksAreComplete}
use Rattle.pipsmake_rules.proofs.KeyLaws.{holds-last, holds-more, holds-cases}
use Rattle.pipsmake_rules.proofs.RankLaws.{rank, is_lower, needs_lower, rank-depth}

-- ---- one result more

pub no_empty : (before : List Key) (k : Key) (after : List Key) → [] ≡ before ++ k ∷ after → ⊥
no_empty [] k after e = cc
no_empty (b ∷ bs) k after e = cc

split : (done before after : List Key) (k j : Key) → done ++ k ∷ [] ≡ before ++ j ∷ after → ((before ≡ done) × (j ≡ k)) ⊎ ((rest : List Key) × (done ≡ before ++ j ∷ rest))
split [] [] after k j e = let s : k ≡ j = cc in inl (refl, sym s)
split [] (b ∷ bs) after k j e = let t : [] ≡ bs ++ j ∷ after = cc in absurd (no_empty bs j after t)
split (d ∷ ds) [] after k j e = let s : d ≡ j = cc in inr (ds, ap (λ x. x ∷ ds) s)
split (d ∷ ds) (b ∷ bs) after k j e =
    let s : d ≡ b = cc in
    let t : ds ++ k ∷ [] ≡ bs ++ j ∷ after = cc in
    elim (split ds bs after k j t) [
      | inl w ↦ inl (cc, w.1)
      | inr w ↦ inr (w.0, cc)
    ]

module _ (names : List (List ℕ)) (g : Graph) where
  stand-more : (done : List Key) (k : Key) → StandBehindNeeds names g done → holds done k ≡ false → list_all (λ n. holds done n) (needs_of names g k) ≡ true → StandBehindNeeds names g (done ++ k ∷ [])
  stand-more done k stand new needs before j after e =
      elim (split done before after k j e) [
        | inl w ↦ subst (λ (b : List Key). (holds b j ≡ false) × (list_all (λ n. holds b n) (needs_of names g j) ≡ true)) (sym w.0)
            (subst (λ m. (holds done m ≡ false) × (list_all (λ n. holds done n) (needs_of names g m) ≡ true)) (sym w.1) (new, needs))
        | inr w ↦ stand before j w.0 w.1
      ]

  -- what a walk does to a list: it only adds, results of ranks below a limit, each behind its needs
  record Extends (limit : ℕ) (done more : List Key) : Type 0 where
    pub keeps : (m : Key) → holds done m ≡ true → holds more m ≡ true
    pub adds : (m : Key) → holds more m ≡ true → holds done m ≡ false → rank g m < limit
    pub stand : StandBehindNeeds names g done → StandBehindNeeds names g more

  both : (b : Bool) → b ≡ true → b ≡ false → ⊥
  both true e f = cc
  both false e f = cc

  unchanged : (limit : ℕ) (done : List Key) → Extends limit done done
  unchanged limit done = record { keeps = λ m e. e; adds = λ m e f. absurd (both (holds done m) e f); stand = λ s. s }

  joined : (a b : ℕ) (done more most : List Key) → a ≤ b → Extends a done more → Extends b more most → Extends b done most
  joined a b done more most le x y = record {
    keeps = λ m e. y.keeps m (x.keeps m e);
    adds = λ m e f. go m e f (holds more m) refl;
    stand = λ s. y.stand (x.stand s);
  }
    where
      go : (m : Key) → holds most m ≡ true → holds done m ≡ false → (c : Bool) → holds more m ≡ c → rank g m < b
      go m e f true q = omega (arith, le, x.adds m q f)
      go m e f false q = y.adds m e q

  abbrev run : ℕ → List Key → List Key → List Key
  run t done ns = fold (λ d n. walk_from t names g d n) done ns

  all_stay : (limit : ℕ) (done more : List Key) → Extends limit done more → (ns : List Key) → list_all (λ n. holds done n) ns ≡ true → list_all (λ n. holds more n) ns ≡ true
  all_stay limit done more x [] e = refl
  all_stay limit done more x (n ∷ ns) e =
      let parts = and_parts (holds done n) (list_all (λ m. holds done m) ns) e in
      and_from (holds more n) (list_all (λ m. holds more m) ns) (x.keeps n parts.0) (all_stay limit done more x ns parts.1)

  -- the walk along several needs, where each walk along one is known
  runs : (t limit : ℕ) → ((done : List Key) (n : Key) → rank g n < t → Extends (suc (rank g n)) done (walk_from t names g done n) × (holds (walk_from t names g done n) n ≡ true))
      → limit ≤ t → (done ns : List Key) → list_all (λ n. nat_lt (rank g n) limit) ns ≡ true → Extends limit done (run t done ns) × (list_all (λ n. holds (run t done ns) n) ns ≡ true)
  runs t limit walks le done [] e = (unchanged limit done, refl)
  runs t limit walks le done (n ∷ ns) e =
      let parts = and_parts (nat_lt (rank g n) limit) (list_all (λ m. nat_lt (rank g m) limit) ns) e in
      let lt : rank g n < limit = ltb-true (rank g n) limit parts.0 in
      let one = walks done n (omega (arith, le, lt)) in
      let next = walk_from t names g done n in
      let rest = runs t limit walks le next ns parts.1 in (
        joined (suc (rank g n)) limit done next (run t next ns) (omega (arith, lt)) one.0 rest.0,
        and_from (holds (run t next ns) n) (list_all (λ m. holds (run t next ns) m) ns) (rest.0.keeps n one.1) rest.1,
      )

  module _ (lower : (k : Key) → list_all (is_lower g k) (needs_of names g k) ≡ true) where
    walks : (t : ℕ) (done : List Key) (k : Key) → rank g k < t → Extends (suc (rank g k)) done (walk_from t names g done k) × (holds (walk_from t names g done k) k ≡ true)
    walks zero done k lt = absurd (omega (arith, lt))
    walks (suc t) done k lt = go (holds done k) refl (runs t (rank g k) (walks t) (omega (arith, lt)) done (needs_of names g k) (lower k))
      where
        added : (m : Key) → holds done m ≡ false → (holds (run t done (needs_of names g k)) m ≡ true) ⊎ (k ≡ m) → Extends (rank g k) done (run t done (needs_of names g k)) → rank g m < suc (rank g k)
        added m f (inl h) x = omega (arith, x.adds m h f)
        added m f (inr s) x = let same : rank g k ≡ rank g m = ap (rank g) s in omega (arith, same)

        new : (c : Bool) → holds (run t done (needs_of names g k)) k ≡ c → Extends (rank g k) done (run t done (needs_of names g k)) → holds done k ≡ false → holds (run t done (needs_of names g k)) k ≡ false
        new false q x e = q
        new true q x e = absurd (omega (arith, x.adds k q e))

        go : (b : Bool) → holds done k ≡ b → Extends (rank g k) done (run t done (needs_of names g k)) × (list_all (λ n. holds (run t done (needs_of names g k)) n) (needs_of names g k) ≡ true)
            → Extends (suc (rank g k)) done (if b then done else run t done (needs_of names g k) ++ k ∷ []) × (holds (if b then done else run t done (needs_of names g k) ++ k ∷ []) k ≡ true)
        go true e x = (unchanged (suc (rank g k)) done, e)
        go false e x =
            let more : List Key = run t done (needs_of names g k) in (
              record {
                keeps = λ m h. holds-more more k m (x.0.keeps m h);
                adds = λ m h f. added m f (holds-cases more k m h) x.0;
                stand = λ s. stand-more more k (x.0.stand s) (new (holds more k) refl x.0 e) x.1;
              },
              holds-last more k,
            )

  ends : (t : ℕ) (k : Key) → EndsWith (walk_from (suc t) names g [] k) k
  ends t k = (run t [] (needs_of names g k), refl)

pub complete : WalksAreComplete
complete names g k up = (
  (walks names g (needs_lower names g up) (depth_of g) [] k (rank-depth g k)).0.stand (λ before j after e. absurd (no_empty before j after e)),
  (let d : depth_of g ≡ suc (12 * length g.order + 11) = omega arith in
      subst (λ t. EndsWith (walk_from t names g [] k) k) (sym d) (ends names g (12 * length g.order + 11) k)),
)
