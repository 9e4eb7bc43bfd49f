-- What holds of each base in the grammar.
use Rattle.std.specs.Prelude.{[]}
use Rattle.base_text.specs.declared.base.Base.{Base}
use Rattle.base_text.specs.Grammar.{IsBase}
use Rattle.pipsmake_db.specs.pipsmake_meaning.Texts.{AreModules}
use Rattle.pipsmake_base.specs.Saved.{texts_in}

-- its texts are modules of their names, each alone
abbrev pub BasesAreModules : Type 0
BasesAreModules = (b : Base) → IsBase b → AreModules (texts_in b)

-- a base without modules and results
abbrev pub empty_base : Base
empty_base = record { modules = []; results = [] }

-- it is in the grammar
abbrev pub EmptyIsBase : Type 0
EmptyIsBase = IsBase empty_base
