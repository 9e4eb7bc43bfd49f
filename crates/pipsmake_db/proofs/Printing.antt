-- What is printed is the program that the texts make.
use Rattle.std.proofs.Common.{◌≡◌, ℕ, List, [], ◌∷◌, ◌++◌, Option, Some, None, Result, Ok, Err, refl, sym, ap, ◌∙◌, append_assoc}
use Rattle.call_graph.specs.declared.graph.Graph.{Graph}
use Rattle.call_graph.specs.declared.refusal.Fault.{Fault}
use Rattle.session_texts.specs.declared.command.Command.{Command}
use Rattle.session_texts.specs.declared.command.Command.TheVariants as command
use Rattle.session_texts.specs.Answers.{made_lines, text_with_count}
use Rattle.result_lines.specs.declared.show.Show as shows
use Rattle.session_texts.specs.pipsmake_meaning.Texts.{AreModules, tables_in, links_in}
use Rattle.laws_database.specs.ProgramTexts.{program_text, session_text, joined_modules}
use Rattle.laws_database.specs.ProgramTextLaws.{TextsMakeTheProgram, TextsAreWrittenAlike, NamesShowTheText}
use Rattle.pipsmake_db.specs.declared.refusal.DbRefusal.{DbRefusal}
use Rattle.pipsmake_db.specs.State.{State}
use Rattle.pipsmake_db.specs.Refusals.{refused_links, link_refusal}
use Rattle.pipsmake_db.specs.Answers.{UnlessRefused, PrintAnswer}
use Rattle.pipsmake_db.specs.Scripts.{AnswersAll}
use Rattle.pipsmake_db.specs.AnswerLaws.{TextsStayModules, PrintsTheProgram, PrintBy, PrintAmong}

accepted : TextsMakeTheProgram → TextsAreWrittenAlike → NamesShowTheText → (show : shows.Show) (s : State) (lines : List ℕ) (t : State) → AreModules s.texts → (q : Result Graph Fault) → links_in s.texts ≡ q → refused_links s.texts q ≡ None →
    PrintAnswer show s lines t → PrintsTheProgram show s lines
accepted make alike names show s lines t own (Err f) e none h = cc
accepted make alike names show s lines t own (Ok g) e none (now, text, m, shown, w) =
    let whole : session_text show s.texts g ≡ text = names show s.texts g text own e shown in
    let same : program_text show (joined_modules s.texts) (tables_in s.texts) g ≡ text = alike show s.texts g own ∙ whole in
    record {
      graph = g;
      linked = e;
      program = make s.texts g own e;
      now = now;
      written = w ∙ ap (λ (u : List ℕ). made_lines now ++ text_with_count u) (sym same);
    }

print_shows : TextsMakeTheProgram → TextsAreWrittenAlike → NamesShowTheText → (show : shows.Show) (s : State) (lines : List ℕ) (t : State) → AreModules s.texts → (why : Option DbRefusal) → link_refusal s.texts ≡ why →
    UnlessRefused why s (PrintAnswer show s) lines t → PrintBy show s why lines
print_shows make alike names show s lines t own None e h = accepted make alike names show s lines t own (links_in s.texts) refl e h
print_shows make alike names show s lines t own (Some r) e h = h.0

pub each_print : TextsStayModules → TextsMakeTheProgram → TextsAreWrittenAlike → NamesShowTheText → (show : shows.Show) (s t : State) (before after : List Command) (out : List ℕ) →
    AnswersAll show s (before ++ command.Print ∷ after) out t → AreModules s.texts → PrintAmong show s t before after out
each_print stay make alike names show s t [] after out (lines, more, next, a, rest, is) own = record {
  earlier = [];
  lines = lines;
  later = more;
  here = s;
  next = next;
  is = is;
  until = (refl, refl);
  from = rest;
  modules = own;
  printed = print_shows make alike names show s lines next own (link_refusal s.texts) refl a;
}
each_print stay make alike names show s t (c ∷ cs) after out (lines, more, next, a, rest, is) own =
    let here : AreModules next.texts = stay show s (c ∷ []) (lines ++ []) next (lines, [], next, a, (refl, refl), refl) own in
    let p : PrintAmong show next t cs after more = each_print stay make alike names show next t cs after more rest here in
    record {
      earlier = lines ++ p.earlier;
      lines = p.lines;
      later = p.later;
      here = p.here;
      next = p.next;
      is = is ∙ ap (λ (m : List ℕ). lines ++ m) p.is ∙ sym (append_assoc lines p.earlier (p.lines ++ p.later));
      until = (lines, p.earlier, next, a, p.until, refl);
      from = p.from;
      modules = p.modules;
      printed = p.printed;
    }
