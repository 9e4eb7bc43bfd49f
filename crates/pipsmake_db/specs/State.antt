-- The state of a session, and the databases that are in it.
use Rattle.std.specs.Prelude.{◌≡◌, ℕ, List, [], ◌∷◌, filter, not}
use Rattle.session_texts.specs.pipsmake_rules.declared.key.Key.{Key}
use Rattle.session_texts.specs.pipsmake_rules.Neighbours.{has_name}
use Rattle.session_texts.specs.pipsmake_meaning.Texts.{ModuleText, names_in}
use Rattle.session_texts.specs.pipsmake_meaning.Session.{Makings, none_made, made_now, made_without}
use Rattle.session_texts.specs.pipsmake_meaning.MemoCells.{MemoCells}
use Rattle.laws_database.specs.Stands.{StandsFor}
use Rattle.laws_database.specs.Laws.{walk_in}
use Rattle.session_texts.specs.Changes.{replaced, without}
use Rattle.result_store.specs.Rows.{memo_cells_of}
use Rattle.pipsmake_db.specs.declared.db.Db.{Db}
use Rattle.pipsmake_db.specs.Fresh.{keys_put}

-- the present texts, the texts at which each kept result was made, and the fresh results: those that were asked for, with what they need, since a text changed last
pub record State : Type 0 where
  pub texts : List ModuleText
  pub made : Makings
  pub fresh : List Key

abbrev pub first_state : State
first_state = record { texts = []; made = none_made; fresh = [] }

-- ---- the next states

-- texts take the place of those of their names, or are added
abbrev pub after_source : State → List ModuleText → State
after_source s us = record { texts = replaced s.texts us; made = s.made; fresh = [] }

-- what was made, but of these names
abbrev pub made_without_all : Makings → List (List ℕ) → Makings
made_without_all made [] = made
made_without_all made (x ∷ xs) = made_without_all (made_without made x) xs

-- those of these names that no text has
abbrev pub gone_of : List ModuleText → List (List ℕ) → List (List ℕ)
gone_of ts names = filter (λ x. not (has_name (names_in ts) x)) names

-- the texts are just these
abbrev pub after_all : State → List ModuleText → State
after_all s us = record { texts = us; made = made_without_all s.made (gone_of us (names_in s.texts)); fresh = [] }

-- a text is gone, and the results of its module
abbrev pub after_drop : State → List ℕ → State
after_drop s x = record { texts = without x s.texts; made = made_without s.made x; fresh = [] }

-- a result was asked for, and these were made
abbrev pub after_make : State → Key → List Key → State
after_make s k now = record { texts = s.texts; made = made_now s.made s.texts now; fresh = keys_put s.fresh (walk_in s.texts k) }

-- ---- databases

abbrev pub texts_of : Db → List ModuleText
texts_of d = d.linked

abbrev pub memo_cells_in : Db → MemoCells
memo_cells_in d = memo_cells_of d.store

-- a database is in a state: what it keeps stands for the session of these makings at the present texts
pub record IsIn (d : Db) (s : State) : Type 0 where
  pub texts : texts_of d ≡ s.texts
  pub stands : StandsFor (memo_cells_in d) s.texts s.made
  pub fresh : d.fresh ≡ s.fresh
