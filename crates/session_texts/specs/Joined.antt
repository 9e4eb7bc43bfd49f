-- How the modules of a text are put beside their texts: cited by private functions alone.
use Rattle.std.specs.Prelude.{ℕ, ◌-◌, List, [], ◌∷◌, map}
use Rattle.f77_ast.specs.declared.places.Parsed.{Parsed}
use Rattle.f77_ast.specs.declared.places.Spot.{Spot}
use Rattle.f77_ast.specs.declared.symbol.Symbol.{Symbol}
use Rattle.fixed_form.specs.declared.source.Piece.{Piece}
use Rattle.session_texts.specs.declared.source.Source.{Source}

-- the place of a statement, its line counted back, so many
abbrev pub spot_back : ℕ → Spot → Spot
spot_back by q = record q { first = q.first - by }

abbrev pub counted_back : ℕ → Parsed → Parsed
counted_back by p = record p { places = record p.places { spots = map (spot_back by) p.places.spots } }

-- the module of a piece by itself, its lines counted from where the piece begins
abbrev pub made_of : Piece → Parsed → List Symbol → Source
made_of p m t = record {
  text = record { name = m.module.name; text = p.text; first = p.first };
  parsed = counted_back (p.first - 1) m;
  symbols = t;
}

abbrev pub sources_from : List Piece → List Parsed → List (List Symbol) → List Source
sources_from [] ms ts = []
sources_from (p ∷ ps) [] ts = []
sources_from (p ∷ ps) (m ∷ ms) [] = []
sources_from (p ∷ ps) (m ∷ ms) (t ∷ ts) = made_of p m t ∷ sources_from ps ms ts
