use Rattle.roundtrip_programs.proofs.Pieces.LinkFaults as links
use Rattle.roundtrip_programs.proofs.piece_laws.faults_ignore_places.Goals as goal

pub returns : goal.returns
returns c = links.faults_ignore_places
