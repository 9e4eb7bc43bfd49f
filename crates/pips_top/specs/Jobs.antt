-- The job that words request.
use Rattle.std.specs.Prelude.{◌≡◌, ℕ, List, Option, Some, None, option_map, IsSomeAnd, Result, Ok, Err}
use Rattle.std.specs.declared.alloc.AllocError.{AllocError}
use Rattle.command_words.specs.Options.{Accepts, options_of}
use Rattle.command_words.specs.Requests.{request_in}
use Rattle.command_words.specs.declared.request.Request.{Request}
use Rattle.command_words.specs.declared.request.Show.{Show as Requested}
use Rattle.command_words.specs.declared.request.Show.TheVariants as requested
use Rattle.command_words.specs.declared.request.Task.{Task}
use Rattle.command_words.specs.declared.request.Task.TheVariants as task
use Rattle.pipsmake_base.specs.result_lines.declared.show.Show.{Show}
use Rattle.pipsmake_base.specs.result_lines.declared.show.Show.TheVariants.{All, Bare, Why}
use Rattle.pips_top.specs.declared.job.Job.{Job}
use Rattle.pips_top.specs.declared.job.Job.TheVariants.{Write, Answer, Count, WriteOver, AnswerOver}
use Rattle.pips_top.specs.declared.job.Opening.{Opening}
use Rattle.pips_top.specs.declared.wanted.Wanted.{Wanted}

abbrev pub shown : Requested → Show
shown requested.All = All
shown requested.Bare = Bare
shown requested.Why = Why

-- what is wanted beside a program
abbrev pub wanted_of : Request → Wanted
wanted_of r = record { show = shown r.show; reductions = r.reductions; bounds = r.bounds }

-- without a base
abbrev pub does_alone : Request → Task → Job
does_alone r task.Write = Write (wanted_of r) r.input
does_alone r task.Session = Answer (shown r.show) r.input
does_alone r (task.Generate parts) = Count parts

abbrev pub opening_of : Request → List ℕ → Opening
opening_of r name = record { name = name; verify = r.verify }

-- with a base; a sample needs none
abbrev pub does_over : Request → List ℕ → Task → Job
does_over r name task.Write = WriteOver (wanted_of r) r.input (opening_of r name)
does_over r name task.Session = AnswerOver (shown r.show) r.input (opening_of r name)
does_over r name (task.Generate parts) = Count parts

abbrev pub does_with : Request → Option (List ℕ) → Job
does_with r None = does_alone r r.task
does_with r (Some name) = does_over r name r.task

-- what is done of what words request
abbrev pub does : Request → Job
does r = does_with r r.base

-- the job that accepted words request
abbrev pub job_in : List (List ℕ) → Option Job
job_in words = option_map does (request_in (options_of words))

-- ---- of a job

-- the name of its INPUT
abbrev pub input_in : Job → Option (List ℕ)
input_in (Write wanted input) = Some input
input_in (Answer show input) = Some input
input_in (Count parts) = None
input_in (WriteOver wanted input opening) = Some input
input_in (AnswerOver show input opening) = Some input

-- its base
abbrev pub opening_in : Job → Option Opening
opening_in (Write wanted input) = None
opening_in (Answer show input) = None
opening_in (Count parts) = None
opening_in (WriteOver wanted input opening) = Some opening
opening_in (AnswerOver show input opening) = Some opening

-- ---- of words

-- the words are accepted, and request a job of which this is so
abbrev pub HasJob : List (List ℕ) → (Job → Type 0) → Type 0
HasJob words P = Accepts words × IsSomeAnd (job_in words) P

-- the words are not accepted, or request nothing
abbrev pub AreRefused : List (List ℕ) → Type 0
AreRefused words = Accepts words → job_in words ≡ None

-- the job that the words request, or none where they are refused; or memory ran out
abbrev pub JobBy : List (List ℕ) → Result (Option Job) AllocError → Type 0
JobBy words (Ok (Some job)) = Accepts words × (job_in words ≡ Some job)
JobBy words (Ok None) = AreRefused words
JobBy words (Err error) = Unit {0}
