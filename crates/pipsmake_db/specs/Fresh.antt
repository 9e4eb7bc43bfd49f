-- Which results were asked for, or needed by one that was, since a text changed last.
use Rattle.std.specs.Prelude.{List, [], ◌∷◌, ◌++◌, if◌then◌else◌}
use Rattle.session_texts.specs.pipsmake_rules.declared.key.Key.{Key}
use Rattle.session_texts.specs.pipsmake_rules.Keys.{holds}

-- a result more, unless it is there
abbrev pub key_put : Key → List Key → List Key
key_put k ks = if holds ks k then ks else ks ++ k ∷ []

-- results one after another
abbrev pub keys_put : List Key → List Key → List Key
keys_put ks [] = ks
keys_put ks (j ∷ js) = keys_put (key_put j ks) js
