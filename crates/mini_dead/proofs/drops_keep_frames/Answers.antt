use Rattle.mini_dead.proofs.AllFrames as whole
use Rattle.mini_dead.proofs.Frames as lemma
use Rattle.mini_dead.proofs.ProgramFrame as root
use Rattle.mini_dead.proofs.drops_keep_frames.Goals as goal

pub returns-clause-below : goal.returns-clause-below
returns-clause-below c = lemma.drops_keep_frames

pub returns-clause-program : goal.returns-clause-program
returns-clause-program c = root.drops_keep_program

pub returns-clause-all : goal.returns-clause-all
returns-clause-all c = whole.drops_keep_all_frames
