use Rattle.vtdm_c.proofs.Sound.{calls_keep_sound, creations_sound, sessions_found}
use Rattle.vtdm_c.proofs.laws.managers_stay_sound.Goals as goal

pub returns : goal.returns
returns c = record { made = creations_sound; called = calls_keep_sound; found = sessions_found }
