-- What is written of the mark of a loop.
use Rattle.std.specs.Prelude.{ℕ, ◌+◌, List, [], ◌∷◌, ◌++◌, map, nat_eq, if◌then◌else◌, codes}
use Rattle.system_text.specs.SystemText.{Bytes, joined, name_at}
use Rattle.region_sets.specs.Written.{name_text}
use Rattle.f77_ast.specs.declared.marks.Kinds.{Kinds}
use Rattle.f77_ast.specs.declared.marks.Kinds.TheVariants.{WriteRead, ReadWrite, WriteWrite}
use Rattle.f77_ast.specs.declared.marks.Private.{Private}
use Rattle.f77_ast.specs.declared.marks.Private.TheVariants.{Yes, Name, Carried, Live}
use Rattle.f77_ast.specs.declared.marks.Reason.{Reason}
use Rattle.f77_ast.specs.declared.marks.Reason.TheVariants.{Jump, InputOutput, Step, Index, Carries}

-- ---- the obstacle of a serial loop

abbrev pub kinds_text : Kinds → Bytes
kinds_text WriteRead = codes " W-R"
kinds_text ReadWrite = codes " R-W"
kinds_text WriteWrite = codes " W-W"

abbrev pub all_kinds_text : List Kinds → Bytes
all_kinds_text [] = []
all_kinds_text (k ∷ ks) = kinds_text k ++ all_kinds_text ks

abbrev pub private_text : Private → Bytes
private_text Yes = codes " Yes"
private_text Name = codes " Name"
private_text Carried = codes " Carried"
private_text Live = codes " Live"

abbrev pub reason_text : List Bytes → Reason → Bytes
reason_text names Jump = codes "Jump"
reason_text names InputOutput = codes "InputOutput"
reason_text names Step = codes "Step"
reason_text names Index = codes "Index"
reason_text names (Carries v ks p) = name_text names v ++ (all_kinds_text ks ++ private_text p)

-- `C> SERIAL A W-R R-W Carried`
abbrev pub obstacle_line : List Bytes → Reason → Bytes
obstacle_line names r = codes "C> SERIAL " ++ reason_text names r

-- ---- the directive of a parallel loop (OpenMP, fixed source form)

abbrev pub private_clause : List Bytes → List ℕ → Bytes
private_clause names [] = []
private_clause names (n ∷ ns) = codes " PRIVATE(" ++ (joined (codes ",") (map (name_at names) (n ∷ ns)) ++ codes ")")

abbrev pub directive_text : List Bytes → List ℕ → Bytes
directive_text names ns = codes "PARALLEL DO" ++ private_clause names ns

-- a line so far, with `used` bytes from column 7 on, and the rest of the text: a line has columns 7 to 72
abbrev pub cut : Bytes → ℕ → Bytes → List Bytes
cut line used [] = line ∷ []
cut line used (c ∷ cs) = if nat_eq used 66 then line ∷ cut (codes "C$OMP&" ++ c ∷ []) 1 cs else cut (line ++ c ∷ []) (used + 1) cs

-- from column 7 on, continued by lines that have `&` in column 6
abbrev pub directive_lines : Bytes → List Bytes
directive_lines text = cut (codes "C$OMP ") 0 text
