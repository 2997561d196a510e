-- The laws of nodes, streams and bytes on which those of negotiations stand, as one.
use Rattle.grasp_laws_node_stories.specs.Stories.{StreamsHaveStories, ClearStreamsAreKept}
use Rattle.grasp_laws_delivery.specs.Pieces.{WhatWasSaidIsGiven}
use Rattle.grasp_laws_delivery.specs.Records.{RecordsHoldWhatCame}
use Rattle.grasp_laws_delivery.specs.Saying.{SaidIsSentOrQueued}
use Rattle.grasp_laws_delivery.specs.Ready.{StreamsAreReady}

pub record Grounds : Type 0 where
  pub stories : StreamsHaveStories
  pub clears : ClearStreamsAreKept
  pub ready : StreamsAreReady
  pub said : SaidIsSentOrQueued
  pub records : RecordsHoldWhatCame
  pub given : WhatWasSaidIsGiven
