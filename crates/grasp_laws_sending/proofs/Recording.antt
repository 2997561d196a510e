-- What an agent's acts and requests leave.
use Rattle.std.proofs.Common.{refl}
use Rattle.grasp_laws_sending.specs.Recording.{WhatIsSentIsRecorded}

pub what_is_sent_is_recorded : WhatIsSentIsRecorded
what_is_sent_is_recorded = (
  record { step = λ n h x value. refl; wait = λ n h x millis. refl; end = λ n h x verdict. refl; invalid = λ n h x detail. refl },
  record { negotiation = λ n asa timeout o peer h. refl; synchronization = λ n asa timeout o peer h. refl },
)
