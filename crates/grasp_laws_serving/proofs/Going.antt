-- A member that serves can make the next call of its agent of prefixes.
use Rattle.std.proofs.Common.{true}
use Rattle.grasp_laws_running.specs.Going.{MayCall, MembersMayCall}
use Rattle.grasp_laws_serving.proofs.Courses.{given_comes}
use Rattle.grasp_laws_serving.specs.Going.{CanGoOn, ServedCoursesGoOn}
use Rattle.grasp_model_network.specs.declared.event.Event.TheVariants as event

pub served_courses_go_on : MembersMayCall → ServedCoursesGoOn
served_courses_go_on may_call serves s w r node seat is member here = from (may_call serves s w r node seat is member here) where
  from : MayCall serves s w node seat → CanGoOn serves s w node seat
  from m = record {
    taken = m.taken;
    own = m.own;
    is_taken = m.is_taken;
    may = (m.may.0, given_comes s w node m.taken.own m.taken.input (event.Agent node true) m.may.1, m.may.2);
  }
