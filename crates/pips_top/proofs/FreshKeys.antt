-- Where the written texts of all modules were made, all stored results of these modules are fresh.
use Rattle.std.proofs.Common.{◌≡◌, ℕ, Bool, true, false, ◌||◌, List, [], ◌∷◌, ◌++◌, map, codes, refl, sym, ap, ap₂, ◌∙◌, subst}
use Rattle.std.specs.Prelude.{if◌then◌else◌}
use Rattle.std.specs.List.{list_all}
use Rattle.std.proofs.lemmas.Bool.{and_parts}
use Rattle.call_graph.specs.declared.graph.Graph.{Graph}
use Rattle.pipsmake_base.specs.pipsmake_rules.declared.kind.Kind.{Kind}
use Rattle.pipsmake_base.specs.pipsmake_rules.declared.kind.Kind.TheVariants as kind
use Rattle.pipsmake_base.specs.pipsmake_rules.declared.key.Key.{Key}
use Rattle.pipsmake_base.specs.pipsmake_rules.Keys.{same_key, holds}
use Rattle.pipsmake_base.specs.pipsmake_rules.Needs.{needs_of}
use Rattle.pipsmake_base.proofs.PipsmakeRules.KeyLaws.{same_key-true}
use Rattle.pipsmake_base.proofs.PipsmakeRules.WalkLaws.{complete}
use Rattle.pipsmake_base.specs.pipsmake_meaning.Texts.{ModuleText, names_in, graph_of}
use Rattle.pipsmake_base.specs.laws_database.Laws.{walk_in}
use Rattle.pipsmake_base.specs.pipsmake_db.Calls.{key}
use Rattle.pipsmake_base.specs.pipsmake_db.Fresh.{keys_put}
use Rattle.pipsmake_base.specs.pipsmake_db.Outlines.{Outline, after_asked, after_printed}
use Rattle.pipsmake_base.specs.Saving.{stored_kinds, fresh_keys, stored_keys}
use Rattle.pips_top.specs.Based.{all_keys}
use Rattle.pipsmake_base.proofs.LawsDatabase.Whole.{graph_in_order}
use Rattle.pipsmake_base.proofs.PipsmakeDb.UpToDate.{puts_keep, puts_hold as puts_have}
use Rattle.pipsmake_base.proofs.PipsmakeDb.WalkedLists.{front_holds}

-- ---- results in lists

-- a result of a list has a place there
record HasPlace (ks : List Key) (k : Key) : Type 0 where
  pub before : List Key
  pub after : List Key
  pub is : ks ≡ before ++ k ∷ after

placed : (ks : List Key) (k : Key) → holds ks k ≡ true → HasPlace ks k
placed [] k e = cc
placed (j ∷ js) k e = go (same_key j k) refl e (placed js k)
  where
    go : (b : Bool) → same_key j k ≡ b → (b || holds js k) ≡ true → (holds js k ≡ true → HasPlace js k) → HasPlace (j ∷ js) k
    go true s f later = let same : j ≡ k = same_key-true j k s in record { before = []; after = js; is = ap (λ i. i ∷ js) same }
    go false s f later = let p = later f in record { before = j ∷ p.before; after = p.after; is = ap (λ is. j ∷ is) p.is }

-- ---- the walk of a written text

-- results of these kinds of a module are in a list
abbrev pub AllThere : List Key → List ℕ → List Kind → Type 0
AllThere ks x [] = Unit {0}
AllThere ks x (k ∷ rest) = (holds ks (key k x) ≡ true) × AllThere ks x rest

kept_there : (ks more : List Key) (x : List ℕ) (kinds : List Kind) → ((k : Key) → holds ks k ≡ true → holds more k ≡ true) → AllThere ks x kinds → AllThere more x kinds
kept_there ks more x [] f h = tt
kept_there ks more x (k ∷ rest) f h = (f (key k x) h.0, kept_there ks more x rest f h.1)

module _ (ts : List ModuleText) (x : List ℕ) where
  abbrev names : List (List ℕ)
  names = names_in ts

  abbrev graph : Graph
  graph = graph_of ts

  -- all but the effects are needed by the written text, and these by the transformers
  walk_has : AllThere (walk_in ts (key kind.Printed x)) x stored_kinds
  walk_has =
      let c = complete names graph (key kind.Printed x) (graph_in_order ts) in
      let before : List Key = c.1.0 in
      let last : walk_in ts (key kind.Printed x) ≡ before ++ key kind.Printed x ∷ [] = c.1.1 in
      let needs : list_all (λ n. holds before n) (needs_of names graph (key kind.Printed x)) ≡ true = (c.0 before (key kind.Printed x) [] last).1 in
      let p1 = and_parts (holds before (key kind.Parsed x)) _ needs in
      let p2 = and_parts (holds before (key kind.Lines x)) _ p1.1 in
      let p3 = and_parts (holds before (key kind.Symbols x)) _ p2.1 in
      let p4 = and_parts (holds before (key kind.Transformers x)) _ p3.1 in
      let p5 = and_parts (holds before (key kind.Preconditions x)) _ p4.1 in
      let p6 = and_parts (holds before (key kind.Regions x)) _ p5.1 in
      let p7 = and_parts (holds before (key kind.InRegions x)) _ p6.1 in
      let p8 = and_parts (holds before (key kind.OutRegions x)) _ p7.1 in
      let p9 = and_parts (holds before (key kind.Marks x)) _ p8.1 in
      let t = placed before (key kind.Transformers x) p4.0 in
      let whole : walk_in ts (key kind.Printed x) ≡ (t.before ++ key kind.Transformers x ∷ t.after) ++ key kind.Printed x ∷ [] = last ∙ ap (λ ks. ks ++ key kind.Printed x ∷ []) t.is in
      let at : walk_in ts (key kind.Printed x) ≡ t.before ++ key kind.Transformers x ∷ (t.after ++ key kind.Printed x ∷ []) = whole ∙ joined t.before (key kind.Transformers x) t.after (key kind.Printed x ∷ []) in
      let own : list_all (λ n. holds t.before n) (needs_of names graph (key kind.Transformers x)) ≡ true = (c.0 t.before (key kind.Transformers x) (t.after ++ key kind.Printed x ∷ []) at).1 in
      let q1 = and_parts (holds t.before (key kind.Parsed x)) _ own in
      let q2 = and_parts (holds t.before (key kind.Symbols x)) _ q1.1 in
      let q3 = and_parts (holds t.before (key kind.CallGraph (codes "*"))) _ q2.1 in
      let q4 = and_parts (holds t.before (key kind.Effects x)) _ q3.1 in
      let up : (k : Key) → holds before k ≡ true → holds (walk_in ts (key kind.Printed x)) k ≡ true =
      λ k e. subst (λ ks. holds ks k ≡ true) (sym last) (front_holds before (key kind.Printed x ∷ []) k e) in
      let effects : holds (walk_in ts (key kind.Printed x)) (key kind.Effects x) ≡ true =
      subst (λ ks. holds ks (key kind.Effects x) ≡ true) (sym at) (front_holds t.before (key kind.Transformers x ∷ (t.after ++ key kind.Printed x ∷ [])) (key kind.Effects x) q4.0) in (
        effects,
        (up (key kind.Transformers x) p4.0, (up (key kind.Preconditions x) p5.0, (up (key kind.Regions x) p6.0, (up (key kind.InRegions x) p7.0, (up (key kind.OutRegions x) p8.0, (up (key kind.Marks x) p9.0, tt)))))),
      )
    where
      joined : (as' : List Key) (k : Key) (bs cs : List Key) → (as' ++ k ∷ bs) ++ cs ≡ as' ++ k ∷ (bs ++ cs)
      joined [] k bs cs = refl
      joined (a ∷ as') k bs cs = ap (λ ks. a ∷ ks) (joined as' k bs cs)

-- ---- what is fresh

-- all results of stored kinds of these modules
abbrev pub AllFresh : List Key → List (List ℕ) → Type 0
AllFresh ks [] = Unit {0}
AllFresh ks (x ∷ xs) = AllThere ks x stored_kinds × AllFresh ks xs

one_fresh : (o : Outline) (x : List ℕ) → AllThere (after_asked o (key kind.Printed x)).fresh x stored_kinds
one_fresh o x = kept_there (walk_in o.texts (key kind.Printed x)) (keys_put o.fresh (walk_in o.texts (key kind.Printed x))) x stored_kinds (puts_have (walk_in o.texts (key kind.Printed x)) o.fresh) (walk_has o.texts x)

all_keep : (o : Outline) (xs : List (List ℕ)) (k : Key) → holds o.fresh k ≡ true → holds (after_printed o xs).fresh k ≡ true
all_keep o [] k e = e
all_keep o (x ∷ xs) k e = all_keep (after_asked o (key kind.Printed x)) xs k (puts_keep (walk_in o.texts (key kind.Printed x)) o.fresh k e)

pub printed_fresh : (o : Outline) (xs : List (List ℕ)) → AllFresh (after_printed o xs).fresh xs
printed_fresh o [] = tt
printed_fresh o (x ∷ xs) =
    let next : Outline = after_asked o (key kind.Printed x) in
    (kept_there next.fresh (after_printed next xs).fresh x stored_kinds (all_keep next xs) (one_fresh o x), printed_fresh next xs)

pub same_texts : (o : Outline) (xs : List (List ℕ)) → (after_printed o xs).texts ≡ o.texts
same_texts o [] = refl
same_texts o (x ∷ xs) = same_texts (after_asked o (key kind.Printed x)) xs

-- ---- what is stored of them

kinds_stored : (fresh : List Key) (x : List ℕ) (kinds : List Kind) → AllThere fresh x kinds → fresh_keys fresh x kinds ≡ map (λ k. key k x) kinds
kinds_stored fresh x [] h = refl
kinds_stored fresh x (k ∷ ks) h =
    ap₂ (λ (b : Bool) (more : List Key). (if b then key k x ∷ [] else []) ++ more) h.0 (kinds_stored fresh x ks h.1)

pub all_stored : (fresh : List Key) (xs : List (List ℕ)) → AllFresh fresh xs → stored_keys fresh xs ≡ all_keys xs
all_stored fresh [] h = refl
all_stored fresh (x ∷ xs) h = ap₂ (λ (own more : List Key). own ++ more) (kinds_stored fresh x stored_kinds h.0) (all_stored fresh xs h.1)
