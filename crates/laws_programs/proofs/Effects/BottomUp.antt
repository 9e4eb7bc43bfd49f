-- Made bottom-up, summaries are there where a module calls another.
use Rattle.std.proofs.Common.{◌≡◌, ⊎_elim, ℕ, zero, suc, Bool, true, false, List, [], ◌∷◌, ◌++◌, length, Option, Some, None, refl, sym, ap, ◌∙◌, subst, arith}
use Rattle.std.specs.Prelude.{if◌then◌else◌, ◌||◌, bytes_eq, nat_eq, slice_get, option_map, option_to_list}
use Rattle.std.specs.List.{list_all}
use Rattle.std.proofs.lemmas.Bool.{eqb-true, eq-eqb, or_parts, or_from}
use Rattle.std.proofs.lemmas.Slice.Eq.{bytes_eq-Decides}
use Rattle.f77_ast.specs.DeclTrees.{ParsedTree}
use Rattle.f77_ast.specs.Symbols.{SymbolTree}
use Rattle.call_graph.specs.declared.graph.Graph.{Graph}
use Rattle.call_graph.specs.Calls.{calls_of}
use Rattle.call_graph.specs.Modules.{names_of}
use Rattle.call_graph.specs.Recursion.{callees_at}
use Rattle.call_graph.specs.Order.{holds, order_of, names_at}
use Rattle.call_graph.specs.Links.{callees_of}
use Rattle.call_graph.specs.Laws.{IsBottomUp}
use Rattle.call_graph.proofs.CycleLaws.{in_order}
use Rattle.f77_meaning.specs.Modules.{Known, known_of}
use Rattle.effects.specs.List.{Callees}
use Rattle.effects.specs.Modules.{cumulated_of}
use Rattle.laws_programs.specs.Effects.Laws.{summary_for}
use Rattle.laws_programs.specs.Effects.Summaries.{with_name, made, with_summary, before, no_summary, bottom_up, SummariesAreMade}
use Rattle.laws_programs.proofs.Effects.Members.{member_at}
use Rattle.laws_programs.proofs.Effects.Once.{NamesOnce, names_once}
use Rattle.laws_programs.proofs.Effects.Callees.{callee_of, known_here}
use Rattle.laws_programs.proofs.Effects.Sound.{all_has, one_or_before, one_on, below_rows}
use Rattle.fx_lists.proofs.Texts.{same_name, unequal_texts}

-- ---- names

fewer : (k : Known) (ks : List Known) → NamesOnce (k ∷ ks) → NamesOnce ks
fewer k ks once i j a b h m n = let z = once (suc i) (suc j) a b h m n in omega (arith, z)

name_found : (ks : List Known) (i : ℕ) (k : Known) → NamesOnce ks → slice_get ks i ≡ Some k → with_name ks k.read.name ≡ Some k
name_found [] i k once e = cc
name_found (l ∷ ks) zero k once e =
    let same : l ≡ k = cc in
    ap (λ b. if b then Some l else with_name ks k.read.name) ((bytes_eq-Decides l.read.name k.read.name).1 (ap (λ z. z.read.name) same)) ∙ ap Some same
name_found (l ∷ ks) (suc i) k once e =
    ap (λ b. if b then Some l else with_name ks k.read.name) (unequal_texts l.read.name k.read.name (λ q. let z = once 0 (suc i) l k refl e q in absurd (omega (arith, z))))
    ∙ name_found ks i k (fewer l ks once) e

names_match : (ps : List ParsedTree) (sss : List (List SymbolTree)) (a : ℕ) → length ps ≡ length sss → slice_get (names_of ps) a ≡ option_map (λ k. k.read.name) (slice_get (known_of ps sss) a)
names_match [] sss a e = refl
names_match (p ∷ ps) [] a e = absurd (omega (arith, e))
names_match (p ∷ ps) (ss ∷ sss) zero e = refl
names_match (p ∷ ps) (ss ∷ sss) (suc a) e = names_match ps sss a (omega (arith, e))

not_before : (done : List ℕ) (a i : ℕ) → holds (done ++ a ∷ []) i ≡ false → (holds done i ≡ false) × (a ≡ i → ⊥)
not_before [] a i h = (refl, λ q. let t = eq-eqb a i q in let z : true ≡ false = sym t ∙ (or_parts (nat_eq a i) false h).0 in cc)
not_before (c ∷ cs) a i h =
    let p = or_parts (nat_eq c i) (holds (cs ++ a ∷ []) i) h in
    let r = not_before cs a i p.1 in
    (or_from (nat_eq c i) (holds cs i) p.0 r.0, r.1)

-- ---- along the order

module _ (ps : List ParsedTree) (sss : List (List SymbolTree)) (g : Graph) (same : length ps ≡ length sss) (once : NamesOnce (known_of ps sss)) where
  abbrev ks : List Known
  ks = known_of ps sss

  abbrev css : List (List ℕ)
  css = callees_of ps sss

  abbrev tables : List ℕ → Callees
  tables = bottom_up ks g

  -- the summaries so far are those of the modules so far
  abbrev Has : List ℕ → Callees → Type 0
  Has done cs = (j : ℕ) (l : Known) → holds done j ≡ true → slice_get ks j ≡ Some l → cs l.read.name ≡ Some (summary_for tables l)

  -- and each module that is to come has what the rest of the order makes of them
  abbrev Leads : List ℕ → List ℕ → Callees → Type 0
  Leads done rest cs = (i : ℕ) (k : Known) → holds done i ≡ false → slice_get ks i ≡ Some k → tables k.read.name ≡ before ks (names_at rest (names_of ps)) cs k.read.name

  abbrev Good : ℕ → Type 0
  Good i = (k : Known) → slice_get ks i ≡ Some k → (j : ℕ) (l : Known) → holds (callees_at css i) j ≡ true → slice_get ks j ≡ Some l → tables k.read.name l.read.name ≡ Some (summary_for tables l)

  -- a place that is none of the modules
  no_module : (a : ℕ) (done rest : List ℕ) (cs : Callees) → slice_get ks a ≡ None → Has done cs → Leads done (a ∷ rest) cs → Has (done ++ a ∷ []) cs × Leads (done ++ a ∷ []) rest cs
  no_module a done rest cs none has leads = (
    (λ j l h e. ⊎_elim (λ i. has j l i e) (λ q. let z : Some l ≡ None = sym e ∙ ap (slice_get ks) (sym q) ∙ none in cc) (one_or_before done a j h)),
    (λ i k h e. leads i k (not_before done a i h).0 e ∙ ap (λ o. before ks (option_to_list o ++ names_at rest (names_of ps)) cs k.read.name) (names_match ps sss a same ∙ ap (option_map (λ x. x.read.name)) none)),
  )

  -- one module more
  module _ (a : ℕ) (ka : Known) (is : slice_get ks a ≡ Some ka) (done rest : List ℕ) (cs : Callees) (fresh : holds done a ≡ false) (has : Has done cs) (leads : Leads done (a ∷ rest) cs) where
    abbrev next : Callees
    next = with_summary ks ka.read.name cs

    its_name : slice_get (names_of ps) a ≡ Some ka.read.name
    its_name = names_match ps sss a same ∙ ap (option_map (λ x. x.read.name)) is

    other_module : (i : ℕ) (k : Known) → slice_get ks i ≡ Some k → (a ≡ i → ⊥) → bytes_eq k.read.name ka.read.name ≡ false
    other_module i k e ne = unequal_texts k.read.name ka.read.name (λ q. ne (sym (once i a k ka e is q)))

    -- it has the summaries so far
    pub its_tables : tables ka.read.name ≡ cs
    its_tables =
        leads a ka fresh is ∙ ap (λ o. before ks (option_to_list o ++ names_at rest (names_of ps)) cs ka.read.name) its_name
        ∙ ap (λ b. if b then cs else before ks (names_at rest (names_of ps)) next ka.read.name) (same_name ka.read.name)

    its_summary : next ka.read.name ≡ Some (summary_for tables ka)
    its_summary =
        ap (λ b. if b then made (with_name ks ka.read.name) cs else cs ka.read.name) (same_name ka.read.name) ∙ ap (λ o. made o cs) (name_found ks a ka once is)
        ∙ ap (λ c. Some (record { symbols = ka.symbols; value = (cumulated_of ka.read.body c ka.symbols).summary })) (sym its_tables)

    pub has_next : Has (done ++ a ∷ []) next
    has_next j l h e = ⊎_elim earlier itself (one_or_before done a j h)
      where
        earlier : holds done j ≡ true → next l.read.name ≡ Some (summary_for tables l)
        earlier i =
            let differs : bytes_eq l.read.name ka.read.name ≡ false = other_module j l e (λ q. let z : true ≡ false = sym i ∙ ap (holds done) (sym q) ∙ fresh in cc) in
            ap (λ b. if b then made (with_name ks ka.read.name) cs else cs l.read.name) differs ∙ has j l i e

        itself : a ≡ j → next l.read.name ≡ Some (summary_for tables l)
        itself q =
            let both : Some ka ≡ Some l = sym is ∙ ap (slice_get ks) q ∙ e in
            let one : ka ≡ l = cc in
            subst (λ x. next x.read.name ≡ Some (summary_for tables x)) one its_summary

    pub leads_next : Leads (done ++ a ∷ []) rest next
    leads_next i k h e =
        let p = not_before done a i h in
        leads i k p.0 e ∙ ap (λ o. before ks (option_to_list o ++ names_at rest (names_of ps)) cs k.read.name) its_name
        ∙ ap (λ b. if b then cs else before ks (names_at rest (names_of ps)) next k.read.name) (other_module i k e p.1)

  -- ---- all modules

  module _ (order : List ℕ) (up : IsBottomUp css order) where
    step : (a : ℕ) (rest done : List ℕ) (cs : Callees) → order ≡ done ++ a ∷ rest → Has done cs → Leads done (a ∷ rest) cs →
        ((next : Callees) → Has (done ++ a ∷ []) next → Leads (done ++ a ∷ []) rest next → (i : ℕ) → holds rest i ≡ true → Good i) → (i : ℕ) → holds (a ∷ rest) i ≡ true → Good i
    step a rest done cs path has leads ih i h = by_module (slice_get ks a) refl
      where
        ready : (holds done a ≡ false) × (list_all (λ c. holds done c) (callees_at css a) ≡ true)
        ready = up done a rest path

        its : (ka : Known) → slice_get ks a ≡ Some ka → Good a
        its ka is k e j l below m =
            let both : Some ka ≡ Some k = sym is ∙ e in
            let one : ka ≡ k = cc in
            subst (λ x. tables x.read.name l.read.name ≡ Some (summary_for tables l)) one
            (ap (λ c. c l.read.name) (its_tables a ka is done rest cs ready.0 has leads) ∙ has j l (all_has done (callees_at css a) j ready.1 below) m)

        none_here : slice_get ks a ≡ None → Good a
        none_here none k e j l below m = let z : Some k ≡ None = sym e ∙ none in cc

        pick : (b : Bool) → nat_eq a i ≡ b → Good a → ((x : ℕ) → holds rest x ≡ true → Good x) → (b || holds rest i) ≡ true → Good i
        pick true q own others t = subst Good (eqb-true a i q) own
        pick false q own others t = others i t

        by_module : (o : Option Known) → slice_get ks a ≡ o → Good i
        by_module None none = let p = no_module a done rest cs none has leads in pick (nat_eq a i) refl (none_here none) (ih cs p.0 p.1) h
        by_module (Some ka) is = pick (nat_eq a i) refl (its ka is) (ih (next a ka is done rest cs ready.0 has leads) (has_next a ka is done rest cs ready.0 has leads) (leads_next a ka is done rest cs ready.0 has leads)) h

    along : (rest done : List ℕ) (cs : Callees) → order ≡ done ++ rest → Has done cs → Leads done rest cs → (i : ℕ) → holds rest i ≡ true → Good i
    along [] done cs path has leads = λ i h. cc
    along (a ∷ rest) done cs path has leads = step a rest done cs path has leads (λ cs' has' leads'. along rest (done ++ a ∷ []) cs' (path ∙ one_on done a rest) has' leads')

pub summaries_are_made : SummariesAreMade
summaries_are_made ps sss g same e i p ss is has j c at n k m named =
    let order = in_order ps sss g same e in
    let q = callee_of ps sss g e i p ss is has c (member_at (calls_of p ss) j c at) in
    let ord = order_of (callees_of ps sss) in
    let good = along ps sss g same (names_once ps sss g e) ord order.1 ord [] no_summary refl (λ x l h. cc)
    (λ x l h y. ap (λ ns. before (known_of ps sss) ns no_summary l.read.name) order.0) i (order.2 i (below_rows (names_of ps) ps sss i p ss is has)) in
    let found = good (record { read = p.module_read; symbols = ss }) (known_here ps sss i p ss is has) q.at q.by q.is_called q.is_module in
    let one = q.only n k m named in
    ap (bottom_up (known_of ps sss) g p.module_read.name) (sym q.is_named) ∙ found ∙ ap (λ y. Some (summary_for (bottom_up (known_of ps sss) g) y)) one
