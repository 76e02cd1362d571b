use Rattle.rev_prompt.proofs.LedLemmas.{past-states-are-led}
use Rattle.rev_prompt.proofs.laws.past_states_are_led.Goals as goal

pub returns : goal.returns
returns c = past-states-are-led
