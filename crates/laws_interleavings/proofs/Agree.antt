-- A plan with marked loops agrees with its plain run.
use Rattle.std.proofs.Common.{ℕ, inl, inr, ⊎_elim, [], Bool, true, refl, true≢false}
use Rattle.f77_ast.specs.Store.{Store}
use Rattle.laws_interleavings.specs.Marks.{plain_run, parallel_run}
use Rattle.laws_interleavings.specs.Sound.{Alike, known_end}
use Rattle.laws_interleavings.proofs.Copies.{only_copies}
use Rattle.laws_interleavings.specs.Laws.{MarkedRunsAgree, LongSchedulesEnd}
use Rattle.laws_interleavings.proofs.Anyhow.{run_anyhow, readable}
use Rattle.laws_interleavings.proofs.Enough.{run_same}
use Rattle.laws_interleavings.proofs.Sounds.{sound_from}

-- at first all is known, since both runs begin with one store
abbrev all_known : ℕ → Bool
all_known x = true

alike : (s : Store) → Alike all_known s s
alike s x = (λ k. inl refl, λ k. absurd (true≢false k))

pub agree : MarkedRunsAgree
agree t s i strict conforms holds ls =
    let sound = sound_from t all_known s i [] strict conforms holds (λ x k. absurd (true≢false k)) in
    ⊎_elim
    (λ e. inl (record {
      outcome = e.outcome;
      printed = e.printed;
      readable = readable t s s ls i (known_end t all_known s i) e.store;
      lost = only_copies (plain_run t s i) (parallel_run t s ls i) (known_end t all_known s i) e.store e.forgotten;
      input = e.input;
    }))
    inr
    (run_anyhow t all_known s s ls i (alike s) sound.0)

pub long_enough : LongSchedulesEnd
long_enough t s i strict conforms holds ls enough =
    let sound = sound_from t all_known s i [] strict conforms holds (λ x k. absurd (true≢false k)) in
    let e = run_same t all_known s s ls i (alike s) sound.0 enough in
    record {
      outcome = e.outcome;
      printed = e.printed;
      readable = readable t s s ls i (known_end t all_known s i) e.store;
      lost = only_copies (plain_run t s i) (parallel_run t s ls i) (known_end t all_known s i) e.store e.forgotten;
      input = e.input;
    }
