-- The lines that answer commands.
use Rattle.std.specs.Prelude.{ℕ, List, [], ◌∷◌, ◌++◌, codes, decimal, count_by, nat_eq}
use Rattle.fixed_form.specs.Characters.{line_feed}
use Rattle.pipsmake_rules.specs.declared.key.Key.{Key}
use Rattle.pipsmake_rules.specs.Kinds.{name_of}

-- names, each after a blank
abbrev pub spaced : List (List ℕ) → List ℕ
spaced [] = []
spaced (name ∷ names) = codes " " ++ name ++ spaced names

-- the modules that were read
abbrev pub source_line : List (List ℕ) → List ℕ
source_line names = codes "source" ++ spaced names ++ codes "\n"

-- the module that is gone
abbrev pub dropped_line : List ℕ → List ℕ
dropped_line name = codes "dropped " ++ name ++ codes "\n"

-- a word, and a result by its kind and name
abbrev pub key_line : List ℕ → Key → List ℕ
key_line word k = word ++ codes " " ++ name_of k.kind ++ codes " " ++ k.name ++ codes "\n"

-- the results that were made, in order
abbrev pub made_lines : List Key → List ℕ
made_lines [] = []
made_lines (k ∷ ks) = key_line (codes "made") k ++ made_lines ks

-- the result that was asked for is up to date
abbrev pub ok_line : Key → List ℕ
ok_line k = key_line (codes "ok") k

-- how many ends of lines a text has
abbrev pub line_count : List ℕ → ℕ
line_count text = count_by (λ b. nat_eq b line_feed) text

-- a text with the number of its lines before it
abbrev pub text_with_count : List ℕ → List ℕ
text_with_count text = codes "text " ++ decimal (line_count text) ++ codes "\n" ++ text
