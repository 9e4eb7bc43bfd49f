-- A program that takes the place of the texts of a database is printed as it is written alone.
use Rattle.std.proofs.Common.{◌≡◌, ℕ, true, List, Option, Some, None, Result, Ok, Err, refl, sym, ap, ◌∙◌, subst}
use Rattle.f77_parser.specs.Gives.{Refused}
use Rattle.call_graph.specs.declared.graph.Graph.{Graph}
use Rattle.call_graph.specs.declared.refusal.Fault.{Fault}
use Rattle.laws_programs.specs.roundtrip_programs.Laws.{TablesIgnorePlaces, GraphsIgnorePlaces}
use Rattle.pipsmake_base.specs.result_lines.declared.show.Show.{Show}
use Rattle.pipsmake_base.specs.pipsmake_meaning.Texts.{ModuleText, names_in, SameTexts, links_in}
use Rattle.pipsmake_base.specs.laws_database.ProgramTexts.{texts_named}
use Rattle.pipsmake_base.specs.laws_database.Stands.{Valuation}
use Rattle.pipsmake_base.specs.session_texts.Sources.{source_modules}
use Rattle.pipsmake_base.specs.laws_database.Sources.Laws.{AcceptedIsSplit, IsSplit}
use Rattle.pipsmake_base.specs.laws_database.Sources.Whole.{LinkedIsAccepted, SomeProgram}
use Rattle.pipsmake_base.specs.pipsmake_db.declared.db.Db.{Db}
use Rattle.pipsmake_base.specs.pipsmake_db.declared.print.Prints.{Prints}
use Rattle.pipsmake_base.specs.pipsmake_db.AnswerSteps.{PrintsAllFrom, PrintsStored, PrintsAll}
use Rattle.pipsmake_base.specs.pipsmake_db.Calls.{Stays, Rests, ReplacesAll}
use Rattle.pipsmake_base.specs.pipsmake_db.Outlines.{Outline, outline_of, after_printed}
use Rattle.pipsmake_base.specs.pipsmake_db.Refusals.{refused_links, link_refusal}
use Rattle.pipsmake_base.specs.pipsmake_db.State.{State, after_all, texts_of, IsIn}
use Rattle.pipsmake_base.specs.Current.{FreshIsCurrent, PrintingStaysCurrent}
use Rattle.pipsmake_base.specs.Saving.{stored_keys}
use Rattle.pips_top.specs.Based.{all_keys}
use Rattle.pips_top.specs.Kept.{texts_wanted, KeptTexts}
use Rattle.pips_top.specs.Program.{ProgramTree}
use Rattle.pips_top.specs.Replies.{PrintsOver}
use Rattle.pips_top.specs.Shown.{alone, is_alone}
use Rattle.pips_top.specs.Written.{written}
use Rattle.pips_top.specs.declared.wanted.Wanted.{Wanted}
use Rattle.pips_top.proofs.Alone.{alone_is, written_alone, texts_alone}
use Rattle.pips_top.proofs.FreshKeys.{AllFresh, printed_fresh, same_texts, all_stored}
use Rattle.pips_top.proofs.KeptTexts.{all_written, texts_stored}
use Rattle.pips_top.proofs.ReadBack.{reading_is}
use Rattle.pipsmake_base.proofs.PipsmakeDb.CommandLemmas.{stays_in, stays_resting}

record AreLinkedBy (ts : List ModuleText) : Type 0 where
  pub graph : Graph
  pub is : links_in ts ≡ Ok graph

linked_by_none : (ts : List ModuleText) (r : Result Graph Fault) → links_in ts ≡ r → refused_links ts r ≡ None → AreLinkedBy ts
linked_by_none ts (Ok g) e none = record { graph = g; is = e }
linked_by_none ts (Err f) e none = cc

same_found : (ts us : List ModuleText) (r : Result (List ModuleText) Refused) → r ≡ Ok ts → r ≡ Ok us → us ≡ ts
same_found ts us r e f = let both : Ok us ≡ Ok ts = sym f ∙ e in cc

same_text : (o : Option (List ℕ)) (t u : List ℕ) → o ≡ Some t → o ≡ Some u → t ≡ u
same_text o t u e f = let both : Some t ≡ Some u = sym e ∙ f in cc

module _ (split : AcceptedIsSplit) (accepted : LinkedIsAccepted) (current : PrintingStaysCurrent) (tables_law : TablesIgnorePlaces) (graphs_law : GraphsIgnorePlaces) (show : Show) (bytes : List ℕ) (d mid between e : Db) (names : List (List ℕ)) (prints : Prints)
    (replaced : ReplacesAll d mid bytes names) (none : link_refusal (texts_of mid) ≡ None) (stay : Stays mid between) (all : PrintsAll show between e prints) where
  abbrev sources : List ModuleText
  sources = replaced.found

  linked : AreLinkedBy sources
  linked = linked_by_none sources (links_in sources) refl (subst (λ ts. link_refusal ts ≡ None) replaced.texts none)

  some : SomeProgram bytes linked.graph
  some = accepted bytes sources linked.graph replaced.read linked.is

  parts : IsSplit bytes some.modules some.tables linked.graph
  parts = split bytes some.modules some.tables linked.graph some.program

  abbrev program : ProgramTree
  program = record { modules = some.modules; tables = some.tables; graph = linked.graph }

  read_as : sources ≡ parts.texts
  read_as = same_found parts.texts sources (source_modules bytes) parts.read replaced.read

  texts_are : texts_of e ≡ sources
  texts_are = all.texts ∙ stay.texts ∙ replaced.texts

  shown : texts_named show sources (names_in sources) ≡ Some (written (alone show) program)
  shown = ap (λ ts. texts_named show ts (names_in ts)) read_as ∙ parts.shown show ∙ ap Some (sym (written_alone show program))

  is_fresh : AllFresh e.fresh (names_in (texts_of e))
  is_fresh =
      subst (λ (o : Outline). AllFresh o.fresh (names_in o.texts)) (sym all.anyway.outline)
      (subst (λ ts. AllFresh (after_printed (outline_of between) (names_in (texts_of between))).fresh (names_in ts)) (sym (same_texts (outline_of between) (names_in (texts_of between)))) (printed_fresh (outline_of between) (names_in (texts_of between))))

  all_fresh : stored_keys e.fresh (names_in (texts_of e)) ≡ all_keys (names_in (texts_of e))
  all_fresh = all_stored e.fresh (names_in (texts_of e)) is_fresh

  -- ---- from a state

  ended : (s : State) → IsIn d s → PrintsAllFrom show (after_all s sources) prints e
  ended s is = all.from (after_all s sources) (stays_in mid between (after_all s sources) stay (replaced.leads s is))

  up_to_date : (s : State) (is : IsIn d s) → FreshIsCurrent (ended s is).next
  up_to_date s is = let p = ended s is in current (after_all s sources) p.next (names_in sources) p.now p.makes tt

  -- ---- over stored results

  printed_stored : (stored : Valuation) → Rests d stored → SameTexts (texts_of d) sources → PrintsStored show stored prints e
  printed_stored stored rests same =
      let mid_rests : Rests mid stored = replaced.rests (subst (SameTexts (texts_of d)) (sym replaced.texts) same) stored rests in
      all.rests stored (stays_resting mid between stored stay mid_rests)

  abbrev OverIt : Wanted → List ℕ → Type 0
  OverIt w text = PrintsOver w bytes text d e

  printed : (w : Wanted) (text : List ℕ) → ((stored : Valuation) → PrintsStored show stored prints e → texts_wanted sources stored w (names_in sources) ≡ Some text)
      → ((s : State) → IsIn e s → FreshIsCurrent s → texts_named show sources (names_in sources) ≡ Some prints.text → text ≡ written w program) → OverIt w text
  printed w text of_stored of_state = record {
    program = program;
    as_program = reading_is bytes some.modules some.tables linked.graph some.program;
    sources = sources;
    split = replaced.read;
    texts = texts_are;
    all = all_fresh;
    rests = λ stored rests same. of_stored stored (printed_stored stored rests same);
    from = λ s is. (let p = ended s is in record { next = p.next; is_in = p.is_in; current = up_to_date s is; is = of_state p.next p.is_in (up_to_date s is) p.text });
  }

  -- without reduction variables and subscript checks
  printed_alone : OverIt (alone show) prints.text
  printed_alone =
      printed (alone show) prints.text
      (λ stored p. ap (λ ts. texts_wanted ts stored (alone show) (names_in ts)) (sym texts_are) ∙ texts_alone (texts_of e) stored show (names_in (texts_of e)) ∙ p.text)
      (λ s is current e. same_text (texts_named show sources (names_in sources)) prints.text (written (alone show) program) e shown)

  -- with them or subscript checks, from what is kept
  printed_reduced : (w : Wanted) (text : List ℕ) → KeptTexts w e text → OverIt w text
  printed_reduced w text kept =
      printed w text
      (λ stored p. ap (λ ts. texts_wanted ts stored w (names_in ts)) (sym texts_are) ∙ texts_stored w e stored p.rests text kept)
      (λ s is now made. all_written tables_law graphs_law w bytes some.modules some.tables linked.graph parts e s is now (texts_are ∙ read_as) is_fresh text kept)

module _ (split : AcceptedIsSplit) (accepted : LinkedIsAccepted) (current : PrintingStaysCurrent) (tables_law : TablesIgnorePlaces) (graphs_law : GraphsIgnorePlaces) (w : Wanted) (bytes : List ℕ) (d mid between e : Db) (names : List (List ℕ)) (prints : Prints)
    (replaced : ReplacesAll d mid bytes names) (none : link_refusal (texts_of mid) ≡ None) (stay : Stays mid between) (all : PrintsAll w.show between e prints) where
  pub printed_over : is_alone w ≡ true → PrintsOver w bytes prints.text d e
  printed_over h =
      subst (λ v. PrintsOver v bytes prints.text d e) (sym (alone_is w h))
      (printed_alone split accepted current tables_law graphs_law w.show bytes d mid between e names prints replaced none stay all)

  pub reduced_over : (text : List ℕ) → KeptTexts w e text → PrintsOver w bytes text d e
  reduced_over text kept = printed_reduced split accepted current tables_law graphs_law w.show bytes d mid between e names prints replaced none stay all w text kept
