-- GO TOs of modules that are read lead to labels of lists around them.
use Rattle.std.proofs.Common.{◌≡◌, ℕ, zero, suc, ◌+◌, ◌≤◌, Bool, true, false, List, [], ◌∷◌, ◌++◌, nat_eq, Some, None, refl, ap, ◌∙◌, subst, arith}
use Rattle.std.specs.Prelude.{slice_get, ◌||◌}
use Rattle.std.proofs.lemmas.Bool.Decides.{nat_tests}
use Rattle.f77_ast.specs.Trees.{StmtTrees}
use Rattle.f77_ast.specs.declared.places.Part.TheVariants as parts
use Rattle.f77_ast.specs.DeclTrees.{ModuleTree, ParsedTree}
use Rattle.f77_statements.specs.Phrases.{end_module}
use Rattle.f77_structure.specs.declared.blocks.Landing.{Landing}
use Rattle.f77_structure.specs.Checks.{fault_of}
use Rattle.f77_parser.specs.Statements.{StatementTree, marks_of}
use Rattle.f77_parser.specs.Building.{written_module, build_module}
use Rattle.f77_parser.specs.Elaborated.{Meant, meant_in, elaborated_in, elaborated}
use Rattle.laws_programs.specs.roundtrip_programs.Statements.Formed.{Each}
use Rattle.laws_programs.specs.roundtrip_programs.ModuleTexts.Cards.{Card, card, cards_in, title_cards, decl_cards, written_cards, statements_of}
use Rattle.laws_programs.specs.roundtrip_programs.Statements.Phrased.{IsPhrase}
use Rattle.laws_programs.specs.roundtrip_programs.ModuleTexts.Folded.{WhilesFit}
use Rattle.laws_programs.specs.roundtrip_programs.ModuleTexts.ModuleLaws.{IsStatement, IsRead, IsCard}
use Rattle.laws_programs.proofs.RoundtripPrograms.ModuleTexts.Each.{each-map}
use Rattle.laws_programs.proofs.RoundtripPrograms.ModuleTexts.Kept.{Held, cards_read}
use Rattle.laws_programs.proofs.RoundtripPrograms.ModuleTexts.Cards.{Any as AnyLabel}
use Rattle.laws_programs.proofs.RoundtripPrograms.ModuleTexts.Built.{written_well, built_well}
use Rattle.laws_programs.proofs.RoundtripPrograms.ModuleTexts.FoldedLaws.{written_back, cards_back}
use Rattle.laws_programs.proofs.RoundtripPrograms.ModuleTexts.Writing.{few_stand}
use Rattle.laws_programs.proofs.RoundtripPrograms.ModuleTexts.Outlines.{Outline, nothing_outlined}
use Rattle.laws_programs.proofs.RoundtripPrograms.ModuleTexts.TreeOutlines.{outline_in}
use Rattle.laws_programs.proofs.RoundtripPrograms.ModuleTexts.Reached.{AllReach}
use Rattle.laws_programs.proofs.RoundtripPrograms.ModuleTexts.JumpsAgain.{all_reach_there}
use Rattle.laws_programs.proofs.Sources.{all_read_of}
use Rattle.laws_programs.proofs.Ordered.{ListOrdered, body_ordered}
use Rattle.preconditions.specs.transformer_algebra.Cells.{has, others}
use Rattle.preconditions.specs.transformers.Jumps.{labels}
use Rattle.laws_analyses.specs.Statements.Leads.{each_leads, StaysIn}
use Rattle.laws_analyses.specs.JumpLaws.{JumpsStayInside}
use Rattle.laws_analyses.proofs.Members.{Member}
use Rattle.laws_analyses.proofs.Sizes.{goings_in, goings_few}
use Rattle.laws_analyses.proofs.LabelBounds.{HasLabel, front, back, list-bounded, is-bounded}
use Rattle.laws_analyses.proofs.Steps.{Came, before, own, inner, InLabels, list_step}
use Rattle.laws_analyses.proofs.Insides.{In, taken_away}
use Rattle.laws_analyses.proofs.Leading.{elaborated-labels, list_stays}

abbrev end_of : StmtTrees → Outline
end_of t = outline_in t nothing_outlined

only_one : (k : ℕ) → In k (0 ∷ []) → 0 ≡ k
only_one k h = go (nat_eq 0 k) refl h
  where
    go : (b : Bool) → nat_eq 0 k ≡ b → (b || false) ≡ true → 0 ≡ k
    go true q i = grind (arith, nat_tests)
    go false q i = cc

body_stays : (m : Meant) (t : StmtTrees) → ListOrdered 0 t → WhilesFit m.is_while t → goings_in t ≤ 4096 → AllReach (end_of t).landings (end_of t).goings
    → ((x : Landing) → Member x (end_of t).landings → x.label ≤ 99999) → StaysIn (elaborated_in m 0 t)
body_stays m t a f few reach bounded ls =
    ap (λ xs. each_leads (elaborated_in m 0 t) (others ls xs)) (elaborated-labels m 0 t)
    ∙ list_stays (end_of t).landings (end_of t).goings reach bounded m 0 0 t a f nothing_outlined (others ls (labels t)) (others ls (labels t)) (λ l e. refl) (record {
      later = λ g h. h;
      apart = λ x n h k. n;
      old = λ x n. absurd n;
      path = λ k h. let e = only_one k h in omega (arith, e);
      some = refl;
      few = omega (arith, few);
      covered = λ x n h. mine x (only_one x.list h) ((list_step t nothing_outlined).landings x n);
    })
  where
    mine : (x : Landing) → 0 ≡ x.list → Came nothing_outlined (end_of t) (InLabels t) x → has (others ls (labels t)) x.label ≡ false
    mine x e (before n) = absurd n
    mine x e (own y z) = taken_away ls (labels t) x.label z
    mine x e (inner y z) = absurd (omega (arith, y, e))

-- ---- modules

record Stays (p : ParsedTree) : Type 0 where
  stays : StaysIn p.module_read.body

-- what is written of it
cards_labelled : (closing : List (List ℕ)) (begun : List StatementTree) (s : StatementTree) → s.phrase ≡ end_module → Each IsRead (begun ++ s ∷ []) → fault_of (marks_of (begun ++ s ∷ [])) ≡ None
    → Each HasLabel (written_cards (written_module closing (begun ++ s ∷ [])).module_read)
unfolding build_module
cards_labelled closing begun s e r f =
    let ss = begun ++ s ∷ [] in
    let w = (written_module closing ss).module_read in
    let a = written_well closing begun s e (each-map IsRead IsStatement ss (λ x h. h.phrase) r) f in
    let P : List Card → Type 0 = λ cs. Each HasLabel cs in
    subst P (cards_back w a) (each-map IsCard HasLabel (statements_of (build_module closing ss).module_read) (λ c h. h.label) (cards_read closing begun s e r f))

-- the labels of the module as it is written
pub labels_bounded : (closing : List (List ℕ)) (begun : List StatementTree) (s : StatementTree) → s.phrase ≡ end_module → Each IsRead (begun ++ s ∷ []) → fault_of (marks_of (begun ++ s ∷ [])) ≡ None
    → (let t = (written_module closing (begun ++ s ∷ [])).module_read.body in (x : Landing) → Member x (end_of t).landings → x.label ≤ 99999)
unfolding written_cards
labels_bounded closing begun s e r f =
    let ss = begun ++ s ∷ [] in
    let w = (written_module closing ss).module_read in
    let a = written_well closing begun s e (each-map IsRead IsStatement ss (λ x h. h.phrase) r) f in
    let tells = (meant_in w).is_while in
    let all = cards_labelled closing begun s e r f in
    let title = title_cards w in let decls = decl_cards 0 w.decls in
    let body = back (title ++ decls) (cards_in tells w.body) (front (title ++ decls ++ cards_in tells w.body) (card parts.End None end_module ∷ []) all) in
    is-bounded (end_of w.body).landings (list-bounded tells 0 w.body a.body body nothing_outlined tt)

-- its statements, in the order of the text
pub written_ordered : (closing : List (List ℕ)) (begun : List StatementTree) (s : StatementTree) → s.phrase ≡ end_module → Each IsRead (begun ++ s ∷ []) → fault_of (marks_of (begun ++ s ∷ [])) ≡ None
    → ListOrdered 0 (written_module closing (begun ++ s ∷ [])).module_read.body
unfolding build_module
written_ordered closing begun s e r f =
    let ss = begun ++ s ∷ [] in
    let i = each-map IsRead IsStatement ss (λ x h. h.phrase) r in
    let w = (written_module closing ss).module_read in
    let m = (build_module closing ss).module_read in
    let formed = each-map IsCard (Held AnyLabel IsPhrase) (statements_of m) (λ c h. (tt, h.phrase)) (cards_read closing begun s e r f) in
    let P : ModuleTree → Type 0 = λ x. ListOrdered 0 x.body in
    subst P (written_back w (written_well closing begun s e i f)) (body_ordered m (built_well closing begun s e i f).body formed)

one_stays : (closing : List (List ℕ)) (begun : List StatementTree) (s : StatementTree) → s.phrase ≡ end_module → Each IsRead (begun ++ s ∷ []) → fault_of (marks_of (begun ++ s ∷ [])) ≡ None → Stays (build_module closing (begun ++ s ∷ []))
unfolding build_module elaborated
one_stays closing begun s e r f =
    let ss = begun ++ s ∷ [] in
    let w = (written_module closing ss).module_read in
    let i = each-map IsRead IsStatement ss (λ x h. h.phrase) r in
    let a = written_well closing begun s e i f in
    let some = goings_few (meant_in w).is_while w.body a.body in
    let most = few_stand closing begun s e i f in
    record { stays = body_stays (meant_in w) w.body (written_ordered closing begun s e r f) a.whiles (omega (arith, some, most)) (all_reach_there closing begun s e i f) (labels_bounded closing begun s e r f) }

at_place : (ps : List ParsedTree) → Each Stays ps → (i : ℕ) (p : ParsedTree) → slice_get ps i ≡ Some p → StaysIn p.module_read.body
at_place [] h i p e = cc
at_place (q ∷ ps) h zero p e = let same : q ≡ p = cc in subst (λ (z : ParsedTree). StaysIn z.module_read.body) same h.first.stays
at_place (q ∷ ps) h (suc i) p e = at_place ps h.others i p e

pub jumps_stay_inside : JumpsStayInside
jumps_stay_inside lines n ps h i p e = at_place ps (all_read_of Stays one_stays lines n ps h) i p e
