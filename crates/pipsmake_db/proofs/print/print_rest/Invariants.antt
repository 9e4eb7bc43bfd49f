use Rattle.std.proofs.Common.{◌≡◌, None, length}
use Rattle.session_texts.specs.pipsmake_meaning.Texts.{names_in}
use Rattle.pipsmake_db.specs.Links.{AreLinks}
use Rattle.pipsmake_db.specs.Refusals.{link_refusal}
use Rattle.pipsmake_db.specs.State.{State, IsIn, texts_of}
use Rattle.pipsmake_db.specs.Calls.{Rests}
use Rattle.pipsmake_db.specs.Outlines.{outline_of}
use Rattle.laws_database.specs.Stands.{Valuation}
use Rattle.pipsmake_db.proofs.PrintLemmas.{AllThere, SoFar, SoFarAnyway, SoFarStored}
use Rattle.pipsmake_db.proofs.print.print_rest.Given as goal

abbrev pub invariant-loop-rest : goal.invariant-loop-rest
invariant-loop-rest l = record {
  links : AreLinks l.links (texts_of l.db);
  linked : link_refusal (texts_of l.db) ≡ None;
  there : AllThere (names_in (texts_of l.db)) l.rest;
  same : l.walked.keys ≡ l.walked.listed;
  texts : texts_of l.db ≡ texts_of l.fn.db;
  anyway : SoFarAnyway (texts_of l.fn.db) (outline_of l.fn.db) l.rest l.prints l.db l.walked.listed;
  stored : (stored : Valuation) → Rests l.fn.db stored → SoFarStored (texts_of l.fn.db) l.show stored l.rest l.prints l.db l.walked.listed;
  so_far : (s : State) → IsIn l.fn.db s → SoFar l.show s l.rest l.prints l.db l.walked.listed;
}

abbrev pub decreases-loop-rest : goal.decreases-loop-rest
decreases-loop-rest l = length l.rest
