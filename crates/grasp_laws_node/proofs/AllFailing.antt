-- Where nothing is refused, each test fails.
use Rattle.std.proofs.Common.{◌≡◌, Bool, false, Ok}
use Rattle.grasp_types.specs.declared.refusal.ApiRefused.{ApiRefused}
use Rattle.grasp_types.specs.declared.refusal.ApiRefused.TheVariants as api
use Rattle.grasp_model_node.specs.Refusals.{early_tests, early}
use Rattle.grasp_laws_node.proofs.Bounded.Tests.{NoneHold, none_hold}

pub record AllFail (holds : ApiRefused → Bool) : Type 0 where
  pub asa : holds api.NoAsa ≡ false
  pub asas : holds api.AsasFull ≡ false
  pub duplicate : holds api.DuplicateAsa ≡ false
  pub both : holds api.NotBoth ≡ false
  pub objectives : holds api.ObjectivesFull ≡ false
  pub taken : holds api.ObjectiveTaken ≡ false
  pub yours : holds api.NotYourObjective ≡ false
  pub negotiable : holds api.NotNegotiable ≡ false
  pub synchronizable : holds api.NotSynchronizable ≡ false
  pub dry : holds api.NotDry ≡ false
  pub locator : holds api.BadLocator ≡ false
  pub session : holds api.NoSession ≡ false
  pub flood : holds api.NoFlood ≡ false
  pub sessions : holds api.SessionsFull ≡ false
  pub streams : holds api.StreamsFull ≡ false

pub all_fail : (holds : ApiRefused → Bool) → early holds ≡ Ok tt → AllFail holds
all_fail holds e = by_all (none_hold (early_tests holds) e) where
  by_all : NoneHold (early_tests holds) → AllFail holds
  by_all (a, (b, (c, (d, (e, (f, (g, (h, (i, (j, (k, (l, (m, (n, (o, (p, (q, (r, s)))))))))))))))))) = record { asa = a; asas = b; duplicate = c; both = d; objectives = e; taken = f; yours = g; negotiable = h; synchronizable = i; dry = j; locator = k; session = l; flood = p; sessions = q; streams = r }
