-- All laws of CALLs and entries.
use Rattle.laws_analyses.specs.Calls.RuleLaws.{CallRulesHold, EntryRulesHold}
use Rattle.laws_analyses.proofs.Calls.SummaryLaws.{does_summary}
use Rattle.laws_analyses.proofs.Calls.KeptLaws.{kept_call}
use Rattle.laws_analyses.proofs.Calls.CallLaws.{does_call}
use Rattle.laws_analyses.proofs.Calls.TrackLaws.{tracks_call}
use Rattle.laws_analyses.proofs.Calls.SiteLaws.{holds_site}
use Rattle.laws_analyses.proofs.Calls.EntryLaws.{hold_sites, holds_main, holds_inside}

pub call_rules_hold : CallRulesHold
call_rules_hold = record {
  summary_does = λ m ss t x y d. does_summary m ss t x y d;
  call_does = λ s es t h k x y z w r d. does_call (record { caller = s; actuals = es; symbols = t.symbols }) t.value h k x y z w r d;
  call_keeps = λ c t h k x y z w r d. kept_call c t h k x y z w r d;
  call_tracks = λ s o es m f g. tracks_call s m f g o es;
}

pub entry_rules_hold : EntryRulesHold
entry_rules_hold = record {
  site_holds = λ s c h k x y r. holds_site s c h k x y r;
  sites_hold = hold_sites;
  main_holds = holds_main;
  inside_holds = holds_inside;
}
