use Rattle.mini_replay.proofs.drafting.draft_between.Given as goal

abbrev pub decreases-steps : goal.decreases-steps
decreases-steps g l = l.draft.room
