-- The first spot of a module that was read is of its first written part.
use Rattle.std.proofs.Common.{◌≡◌, ℕ, Bool, true, false, List, [], ◌∷◌, ◌++◌, nat_eq, refl, sym, ap, ◌∙◌, subst, if◌then◌else◌}
use Rattle.std.specs.Prelude.{Option, Some, None}
use Rattle.f77_ast.specs.declared.places.Part.{Part}
use Rattle.f77_ast.specs.declared.places.Part.TheVariants as parts
use Rattle.f77_ast.specs.declared.places.Spot.{Spot}
use Rattle.f77_ast.specs.Trees.{StmtTree, stmt, WhatTree, assign, do_loop, call, goto, continue, return, stop, print, read, arm, no_arms, more_arms, StmtTrees, no_stmts, more_stmts}
use Rattle.f77_ast.specs.Trees as trees
use Rattle.f77_ast.specs.DeclTrees.{DeclTree, ParsedTree}
use Rattle.f77_ast.specs.PlainStmt.{stmts_of}
use Rattle.f77_printer.specs.PageText.{is_part}
use Rattle.f77_statements.specs.Phrases.{end_module}
use Rattle.f77_structure.specs.Order.{check_next, all_ordered, nothing_ordered}
use Rattle.f77_structure.specs.Steps.{by_role, parse_statement, all_stepped, nothing_open}
use Rattle.f77_parser.specs.Roles.{role_of}
use Rattle.f77_parser.specs.Statements.{StatementTree, mark_of, marks_of}
use Rattle.f77_parser.specs.SoFar.{SoFar, spot, add_spot, add_executable}
use Rattle.f77_parser.specs.Elaborated.{meant_in}
use Rattle.f77_parser.specs.Building.{add_phrase, add_statement, add_all, no_statements, whole, written_module, build_module}
use Rattle.roundtrip_programs.specs.Statements.Formed.{Each}
use Rattle.roundtrip_programs.specs.ModuleTexts.Cards.{Card, card, cards_by, cards_in, title_of, title_cards, decl_cards, written_cards, statements_of}
use Rattle.roundtrip_programs.specs.ModuleTexts.Numbered.{NumberedBelow, AreNumbered, IsAsWritten, IsWell}
use Rattle.roundtrip_programs.proofs.ModuleTexts.FoldedLaws.{elaborated_well, cards_back}
use Rattle.roundtrip_programs.proofs.ModuleTexts.Steady.{step-calm, all-found, no-fault}
use Rattle.roundtrip_programs.proofs.ModuleTexts.Well.{all-closed, nothing-goes}
use Rattle.roundtrip_programs.proofs.ModuleTexts.Built.{written_well}
use Rattle.roundtrip_programs.proofs.Written.Beginning.{Start, with_title, with_decl, with_statement, part_at, outermost, Opens, Leads, Begins, is_titled, taken, found-before, all-begun}
use Rattle.roundtrip_programs.proofs.Written.Starting.{starts}
use Rattle.roundtrip_programs.proofs.Written.Read.{IsInner, IsBuilt}

-- ---- the first written part

record FirstCard (part : Part) (cs : List Card) : Type 0 where
  card_is : Card
  cards : List Card
  is : cs ≡ card_is ∷ cards
  same : is_part card_is.part part ≡ true

one : (part : Part) (c : Card) (cs : List Card) → is_part c.part part ≡ true → FirstCard part (c ∷ cs)
one part c cs h = record { card_is = c; cards = cs; is = refl; same = h }

before : (part : Part) (xs ys : List Card) → FirstCard part xs → FirstCard part (xs ++ ys)
before part xs ys f = record { card_is = f.card_is; cards = f.cards ++ ys; is = ap (λ x. x ++ ys) f.is; same = f.same }

after-none : (part : Part) (xs ys : List Card) → xs ≡ [] → FirstCard part ys → FirstCard part (xs ++ ys)
after-none part xs ys e f = record { card_is = f.card_is; cards = f.cards; is = ap (λ x. x ++ ys) e ∙ f.is; same = f.same }

chosen : (part : Part) (b : Bool) (c : Card) → b ≡ true → is_part c.part part ≡ true → FirstCard part (if b then c ∷ [] else [])
chosen part true c e h = one part c [] h
chosen part false c e h = cc

not-chosen : (b : Bool) (c : Card) → b ≡ false → ◌≡◌ {A = List Card} (if b then c ∷ [] else []) []
not-chosen true c e = cc
not-chosen false c e = refl

first-by : (g : ℕ → Bool) (n id : ℕ) (label : Option ℕ) (w : WhatTree) → NumberedBelow n w → nat_eq id 1 ≡ true → FirstCard (parts.Stmt 1) (cards_by g id label w)
first-by g n id label (assign v e) b h = one _ _ _ h
first-by g n id label (trees.block_if no_arms other) b h = absurd b.parts
first-by g n id label (trees.block_if (more_arms (arm test body) others) other) b h = one _ _ _ h
first-by g n id label (trees.logical_if e (stmt inner own w)) b h = one _ _ _ h
first-by g n id label (do_loop l) b h = one _ _ _ h
first-by g n id label (call c es) b h = one _ _ _ h
first-by g n id label (goto l) b h = one _ _ _ h
first-by g n id label continue b h = one _ _ _ h
first-by g n id label return b h = one _ _ _ h
first-by g n id label (stop t) b h = one _ _ _ h
first-by g n id label (print es) b h = one _ _ _ h
first-by g n id label (read es) b h = one _ _ _ h

body-first : (g : ℕ → Bool) (l : List StmtTree) → Opens 1 [] l → AreNumbered 0 (stmts_of l) → FirstCard (parts.Stmt 1) (cards_in g (stmts_of l))
body-first g [] h b = cc
body-first g (stmt id label w ∷ l) h b =
    let same : id ≡ 1 = cc in
    before (parts.Stmt 1) (cards_by g id label w) (cards_in g (stmts_of l)) (first-by g _ id label w b.first.below (ap (λ x. nat_eq x 1) same))

decls-first : (ds : List DeclTree) (d : DeclTree) (rest : List DeclTree) → ds ≡ d ∷ rest → FirstCard (parts.Decl 0) (decl_cards 0 ds)
decls-first [] d rest e = cc
decls-first (x ∷ ds) d rest e = one _ _ _ refl

no-decls : (ds : List DeclTree) → ds ≡ [] → decl_cards 0 ds ≡ []
no-decls [] e = refl
no-decls (d ∷ ds) e = cc

first-card : (b : Start) (p : SoFar) (k : ℕ) → Begins b p k → p.around ≡ [] → AreNumbered 0 (stmts_of p.list) → FirstCard (part_at b) (written_cards (whole [] p).module_read)
unfolding written_cards
first-card with_title p k h e n =
    let m = (whole [] p).module_read in let title = title_cards m in let decls = decl_cards 0 m.decls in let body = cards_in (meant_in m).is_while m.body in
    before _ (title ++ decls ++ body) (card parts.End None end_module ∷ [])
    (before _ (title ++ decls) body (before _ title decls (chosen parts.Title (is_titled p.heading) (card parts.Title None (title_of m)) h refl)))
first-card with_decl p k h e n =
    let m = (whole [] p).module_read in let title = title_cards m in let decls = decl_cards 0 m.decls in let body = cards_in (meant_in m).is_while m.body in
    let none = not-chosen (is_titled p.heading) (card parts.Title None (title_of m)) h.bare in
    before _ (title ++ decls ++ body) (card parts.End None end_module ∷ [])
    (before _ (title ++ decls) body (after-none _ title decls none (decls-first p.decls h.some.0 h.some.1 h.some.2)))
first-card with_statement p k h e n =
    let m = (whole [] p).module_read in let title = title_cards m in let decls = decl_cards 0 m.decls in let body = cards_in (meant_in m).is_while m.body in
    let none = not-chosen (is_titled p.heading) (card parts.Title None (title_of m)) h.bare in
    let bare : title ++ decls ≡ [] = ap (λ x. x ++ decls) none ∙ no-decls p.decls h.none in
    let opens : Opens 1 [] p.list = sym (ap (λ x. outermost x p.list) e) ∙ h.first in
    before _ (title ++ decls ++ body) (card parts.End None end_module ∷ []) (after-none _ (title ++ decls) body bare (body-first (meant_in m).is_while p.list opens n))

-- ---- the first spot

record Led (x : Spot) (ss : List Spot) : Type 0 where
  others : List Spot
  is : ss ≡ x ∷ others

led : (x : Spot) (ss : List Spot) → Leads x ss → Led x ss
led x [] h = cc
led x (s ∷ ss) h = let same : s ≡ x = cc in record { others = ss; is = ap (λ y. y ∷ ss) same }

-- of what is so far
record FrontsSo (p : SoFar) : Type 0 where
  spot_is : Spot
  spots : List Spot
  is : p.spots ≡ spot_is ∷ spots
  part : FirstCard spot_is.part (written_cards (whole [] p).module_read)

alone-fronts : (f : ℕ) (label : Option ℕ) (cs : List (List ℕ)) → FrontsSo (add_phrase f label cs end_module no_statements)
unfolding add_spot add_executable written_cards
alone-fronts f None cs = record { spot_is = spot parts.End f cs; spots = []; is = refl; part = one _ _ _ refl }
alone-fronts f (Some l) cs = record { spot_is = spot (parts.Stmt 1) f cs; spots = spot parts.End f [] ∷ []; is = refl; part = one _ _ _ refl }

all-fronts : (begun : List StatementTree) (end : StatementTree) → Each IsInner begun → end.phrase ≡ end_module → (all_ordered (marks_of (begun ++ end ∷ [])) nothing_ordered).found ≡ None
    → (all_stepped 0 (marks_of (begun ++ end ∷ [])) nothing_open).found ≡ None → (add_all (begun ++ end ∷ []) no_statements).around ≡ []
    → AreNumbered 0 (stmts_of (add_all (begun ++ end ∷ []) no_statements).list) → FrontsSo (add_all (begun ++ end ∷ []) no_statements)
all-fronts [] end i e o b c n =
    subst (λ x. FrontsSo (add_phrase end.first end.label end.comments x no_statements)) (sym e) (alone-fronts end.first end.label end.comments)
all-fronts (s ∷ ss) end i e o b c n =
    let rest = ss ++ end ∷ [] in
    let p = add_all rest (add_statement s no_statements) in
    let next = parse_statement 0 (mark_of s) nothing_open in
    let found : next.found ≡ None = all-found 1 (marks_of rest) next b in
    let step = step-calm 0 (mark_of s) nothing_open found in
    let calm : (by_role (role_of s.phrase) s.label s.first nothing_open).found ≡ None = sym (ap (λ x. x.found) step.same) ∙ found in
    let t = starts s.first s.label s.deep s.comments s.phrase i.first calm in
    let a = taken (mark_of s) nothing_ordered (found-before (marks_of rest) (check_next (mark_of s) nothing_ordered) o) in
    let x = spot (part_at t.start) s.first s.comments in
    let g = all-begun t.start x rest (add_statement s no_statements) (check_next (mark_of s) nothing_ordered) a.begun o t.begins t.leads in
    let l = led x p.spots g.leads in
    record { spot_is = x; spots = l.others; is = l.is; part = first-card t.start p g.count g.begins c n }

-- ---- modules

pub record IsFronted (m : ParsedTree) : Type 0 where
  pub well : IsWell m.module_read
  pub spot_is : Spot
  pub spots : List Spot
  pub is : m.places.spots ≡ spot_is ∷ spots
  pub card_is : Card
  pub cards : List Card
  pub written : statements_of m.module_read ≡ card_is ∷ cards
  pub same : is_part card_is.part spot_is.part ≡ true

built-by : (closing : List (List ℕ)) (ss : List StatementTree) → IsAsWritten (written_module closing ss).module_read → FrontsSo (add_all ss no_statements) → IsFronted (build_module closing ss)
unfolding build_module written_module
built-by closing ss w f =
    let read = (written_module closing ss).module_read in
    let cards = cards_back read w in
    record { well = elaborated_well read w; spot_is = f.spot_is; spots = f.spots; is = f.is; card_is = f.part.card_is; cards = f.part.cards; written = cards ∙ f.part.is; same = f.part.same }

numbered : (closing : List (List ℕ)) (ss : List StatementTree) → IsAsWritten (written_module closing ss).module_read → AreNumbered 0 (stmts_of (add_all ss no_statements).list)
unfolding written_module
numbered closing ss w = w.body

pub fronted : (m : ParsedTree) → IsBuilt m → IsFronted m
fronted m h =
    let read = h.begun ++ h.end ∷ [] in
    let none = no-fault (marks_of read) h.faultless in
    let well = written_well h.closing h.begun h.end h.ends h.formed h.faultless in
    let closed = all-closed h.begun h.end 0 no_statements nothing_open h.ends h.formed nothing-goes none.2 in
    let f = all-fronts h.begun h.end h.inner h.ends none.0 none.2 closed (numbered h.closing read well) in
    subst IsFronted (sym h.is) (built-by h.closing read well f)
