-- What can be made has a value, and so has all that it needs.
use Rattle.std.proofs.Common.{◌≡◌, ℕ, true, List, [], ◌∷◌, ◌++◌, map, Some, refl, sym, ap, subst}
use Rattle.std.specs.Prelude.{bytes_eq, option_map}
use Rattle.std.proofs.lemmas.Bool.{or_left, or_right}
use Rattle.std.proofs.lemmas.Slice.Eq.{bytes_eq-Decides}
use Rattle.call_graph.specs.CallsIn.{Each}
use Rattle.result_lines.specs.declared.show.Show.TheVariants.{All}
use Rattle.session_texts.specs.pipsmake_rules.declared.kind.Kind.{Kind}
use Rattle.session_texts.specs.pipsmake_rules.declared.kind.Kind.TheVariants as kind
use Rattle.session_texts.specs.pipsmake_rules.declared.key.Key.{Key}
use Rattle.session_texts.specs.pipsmake_rules.Keys.{key_of}
use Rattle.session_texts.specs.pipsmake_rules.Neighbours.{has_name, callees_of, callers_of}
use Rattle.session_texts.specs.pipsmake_rules.Needs.{keys_of, by_module}
use Rattle.session_texts.specs.pipsmake_meaning.Values.{Value, parsed, lines, symbols, graph, effects, transformers, preconditions, regions, ins, outs, marks, printed}
use Rattle.session_texts.specs.pipsmake_meaning.Texts.{ModuleText, AreModules, names_in, graph_or_none, graph_of}
use Rattle.session_texts.specs.pipsmake_meaning.Definitions.{graph_found, text_shown, printed_with, definition}
use Rattle.session_texts.specs.pipsmake_meaning.Session.{needs_in}
use Rattle.laws_database.specs.Laws.{AreLinked, CanMake}
use Rattle.laws_database.proofs.Stamps.{HasText}
use Rattle.laws_database.proofs.Modules.{Read, read_at, Entry, entry_of, callees_named, callers_named}
use Rattle.call_graph.proofs.EachLaws.{each_more, each_joined}

own_names : (xs : List (List ℕ)) → Each (λ y. has_name xs y ≡ true) xs
own_names [] = tt
own_names (x ∷ xs) = (
  or_left (bytes_eq x x) (has_name xs x) ((bytes_eq-Decides x x).1 refl),
  each_more (λ y. has_name xs y ≡ true) (λ y. has_name (x ∷ xs) y ≡ true) xs (λ y h. or_right (bytes_eq x y) (has_name xs y) h) (own_names xs),
)

each_key : (P : Key → Type 0) (Q : List ℕ → Type 0) (k : Kind) → ((x : List ℕ) → Q x → P (key_of k x)) → (xs : List (List ℕ)) → Each Q xs → Each P (map (λ x. key_of k x) xs)
each_key P Q k h [] e = tt
each_key P Q k h (x ∷ xs) e = (h x e.0, each_key P Q k h xs e.1)

each_module : (P : Key → Type 0) (Q : List ℕ → Type 0) (ks : List Kind) → ((x : List ℕ) → Q x → Each P (keys_of ks x)) → (xs : List (List ℕ)) → Each Q xs → Each P (by_module ks xs)
each_module P Q ks h [] e = tt
each_module P Q ks h (x ∷ xs) e = each_joined P (keys_of ks x) (by_module ks xs) (h x e.0) (each_module P Q ks h xs e.1)

none_last : (P : Key → Type 0) (xs : List (List ℕ)) → Each P (by_module [] xs)
none_last P [] = tt
none_last P (x ∷ xs) = none_last P xs

none_first : (P : Key → Type 0) (xs : List (List ℕ)) (rest : List Key) → Each P rest → Each P (by_module [] xs ++ rest)
none_first P [] rest h = h
none_first P (x ∷ xs) rest h = none_first P xs rest h

module _ (ts : List ModuleText) (ms : AreModules ts) where
  abbrev pub Can : Key → Type 0
  Can k = CanMake ts k.kind k.name

  abbrev IsName : List ℕ → Type 0
  IsName y = has_name (names_in ts) y ≡ true

  graph_is : (l : AreLinked ts) → l.0 ≡ graph_of ts
  graph_is l = sym (ap graph_or_none l.1)

  pub named_callees : AreLinked ts → (x : List ℕ) → Each IsName (callees_of (graph_of ts) x)
  named_callees l x = subst (λ g. Each IsName (callees_of g x)) (graph_is l) (callees_named ts ms l.0 l.1 x)

  pub named_callers : AreLinked ts → (x : List ℕ) → Each IsName (callers_of (graph_of ts) x)
  named_callers l x = subst (λ g. Each IsName (callers_of g x)) (graph_is l) (callers_named ts ms l.0 l.1 x)

  abbrev cs : List ℕ → List (List ℕ)
  cs x = callees_of (graph_of ts) x

  abbrev ds : List ℕ → List (List ℕ)
  ds x = callers_of (graph_of ts) x

  to_none : (x : List ℕ) → Each Can (by_module [] (callees_of (graph_of ts) x) ++ by_module [] (callers_of (graph_of ts) x))
  to_none x = none_first Can (cs x) (by_module [] (ds x)) (none_last Can (ds x))

  to_callees : AreLinked ts → (ks : List Kind) → ((y : List ℕ) → IsName y → Each Can (keys_of ks y)) → (x : List ℕ) → Each Can (by_module ks (callees_of (graph_of ts) x) ++ by_module [] (callers_of (graph_of ts) x))
  to_callees l ks h x = each_joined Can (by_module ks (cs x)) (by_module [] (ds x)) (each_module Can IsName ks h (cs x) (named_callees l x)) (none_last Can (ds x))

  to_callers : AreLinked ts → (ks : List Kind) → ((y : List ℕ) → IsName y → Each Can (keys_of ks y)) → (x : List ℕ) → Each Can (by_module [] (callees_of (graph_of ts) x) ++ by_module ks (callers_of (graph_of ts) x))
  to_callers l ks h x = none_first Can (cs x) (by_module ks (ds x)) (each_module Can IsName ks h (ds x) (named_callers l x))

  needs_for : (k : Kind) (x : List ℕ) → CanMake ts k x → Each Can (needs_in ts (record { kind = k; name = x }))
  needs_for kind.Parsed x c = to_none x
  needs_for kind.Lines x c = to_none x
  needs_for kind.Symbols x c = (c, to_none x)
  needs_for kind.CallGraph x c =
      let named = own_names (names_in ts) in
      let first : List Key = map (λ y. key_of kind.Parsed y) (names_in ts) in
      let second : List Key = map (λ y. key_of kind.Symbols y) (names_in ts) in
      let all : Each Can (first ++ (second ++ [])) = each_joined Can first (second ++ []) (each_key Can IsName kind.Parsed (λ y n. n) (names_in ts) named)
      (each_joined Can second [] (each_key Can IsName kind.Symbols (λ y n. n) (names_in ts) named) tt) in
      each_joined Can ((first ++ (second ++ [])) ++ by_module [] (cs x)) (by_module [] (ds x))
      (each_joined Can (first ++ (second ++ [])) (by_module [] (cs x)) all (none_last Can (cs x))) (none_last Can (ds x))
  needs_for kind.Effects x c = (c.1, (c.1, ((c.0, refl), to_callees c.0 (kind.Symbols ∷ kind.Effects ∷ []) (λ y n. (n, ((c.0, n), tt))) x)))
  needs_for kind.Transformers x c = (c.1, (c.1, ((c.0, refl), (c, to_callees c.0 (kind.Symbols ∷ kind.Transformers ∷ []) (λ y n. (n, ((c.0, n), tt))) x))))
  needs_for kind.Preconditions x c = (c.1, (c.1, ((c.0, refl), (c, to_callers c.0 (kind.Parsed ∷ kind.Symbols ∷ kind.Preconditions ∷ []) (λ y n. (n, (n, ((c.0, n), tt)))) x))))
  needs_for kind.Regions x c = (c.1, (c.1, ((c.0, refl), (c, to_callees c.0 (kind.Symbols ∷ kind.Regions ∷ []) (λ y n. (n, ((c.0, n), tt))) x))))
  needs_for kind.InRegions x c = (c.1, (c.1, ((c.0, refl), (c, (c, to_callees c.0 (kind.Symbols ∷ kind.InRegions ∷ []) (λ y n. (n, ((c.0, n), tt))) x)))))
  needs_for kind.OutRegions x c =
      (c.1, (c.1, ((c.0, refl), (c, (c, (c, to_callers c.0 (kind.Parsed ∷ kind.Symbols ∷ kind.Transformers ∷ kind.OutRegions ∷ []) (λ y n. (n, (n, ((c.0, n), ((c.0, n), tt))))) x))))))
  needs_for kind.Marks x c = (c.1, (c.1, ((c.0, refl), (c, (c, (c, (c, (c, (c, to_none x)))))))))
  needs_for kind.Printed x c = (c.1, (c.1, (c.1, (c, (c, (c, (c, (c, (c, to_none x)))))))))

  pub needs_can : (k : Key) → Can k → Each Can (needs_in ts k)
  needs_can k c = needs_for k.kind k.name c

  -- ---- values

  abbrev HasValue : Kind → List ℕ → Type 0
  HasValue k x = (v : Value) × (definition ts k x ≡ Some v)

  read : (x : List ℕ) → IsName x → Read ts x
  read x n = read_at ts ms x n

  found : (x : List ℕ) (c : AreLinked ts × IsName x) → Entry ts c.0.0 x (read x c.1).read
  found x c = entry_of ts c.0.0 c.0.1 x (read x c.1)

  value_for : (k : Kind) (x : List ℕ) → CanMake ts k x → HasValue k x
  value_for kind.Parsed x c = let r = read x c in (parsed r.read.module_is.module_read, ap (option_map (λ m. parsed m.module_is.module_read)) r.is_read)
  value_for kind.Lines x c = let r = read x c in (lines r.read.module_is.places, ap (option_map (λ m. lines m.module_is.places)) r.is_read)
  value_for kind.Symbols x c = let r = read x c in (symbols r.read.table, ap (option_map (λ m. symbols m.table)) r.is_read)
  value_for kind.CallGraph x c = (graph c.0.0, ap graph_found c.0.1)
  value_for kind.Effects x c = let e = found x c in (effects e.entry.effects, ap (option_map (λ f. effects f.effects)) e.result)
  value_for kind.Transformers x c = let e = found x c in (transformers e.entry.transformers, ap (option_map (λ f. transformers f.transformers)) e.result)
  value_for kind.Preconditions x c = let e = found x c in (preconditions e.entry.preconditions, ap (option_map (λ f. preconditions f.preconditions)) e.result)
  value_for kind.Regions x c = let e = found x c in (regions e.entry.regions, ap (option_map (λ f. regions f.regions)) e.result)
  value_for kind.InRegions x c = let e = found x c in (ins e.entry.ins, ap (option_map (λ f. ins f.ins)) e.result)
  value_for kind.OutRegions x c = let e = found x c in (outs e.entry.outs, ap (option_map (λ f. outs f.outs)) e.result)
  value_for kind.Marks x c = let e = found x c in (marks e.entry.marks, ap (option_map (λ f. marks f.marks)) e.result)
  value_for kind.Printed x c = let e = found x c in let r = read x c.1 in (printed (text_shown All r.read e.entry), (λ i. printed_with (r.is_read i) (e.result i)))

  pub has_value : (k : Key) → Can k → HasValue k.kind k.name
  has_value k c = value_for k.kind k.name c

  text_for : (k : Kind) (x : List ℕ) → CanMake ts k x → HasText ts k x
  text_for kind.Parsed x c = let r = read x c in (r.text, r.is_text)
  text_for kind.Lines x c = let r = read x c in (r.text, r.is_text)
  text_for kind.Symbols x c = tt
  text_for kind.CallGraph x c = tt
  text_for kind.Effects x c = tt
  text_for kind.Transformers x c = tt
  text_for kind.Preconditions x c = tt
  text_for kind.Regions x c = tt
  text_for kind.InRegions x c = tt
  text_for kind.OutRegions x c = tt
  text_for kind.Marks x c = tt
  text_for kind.Printed x c = tt

  pub has_text : (k : Key) → Can k → HasText ts k.kind k.name
  has_text k c = text_for k.kind k.name c
