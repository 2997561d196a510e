use Rattle.grasp_session.proofs.Earliest.{all_empty}
use Rattle.grasp_session.proofs.Seats.{empty_sound}
use Rattle.grasp_session.proofs.places.Places.new.Goals as goal

pub invariant_of-result : goal.invariant_of-result
invariant_of-result c = (empty_sound c.in_ok-with_capacity.field-0 c.in_ok-with_capacity.ensures.empty c.in_ok-with_capacity.ensures.capacity, all_empty 18446744073709551615 64)
