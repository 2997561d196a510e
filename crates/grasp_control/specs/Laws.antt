-- Laws on the lines of requests.
use Rattle.std.specs.Prelude.{◌≡◌, ℕ, List}
use Rattle.grasp_text.specs.Words.{words_of}
use Rattle.grasp_control.specs.Places.{IsRequestPlace}
use Rattle.grasp_control.specs.Requests.{request_words, request_line, IsRequest, IsRequestLine}
use Rattle.grasp_control.specs.declared.request.Request.{Request}

-- a line means one thing at most
abbrev pub RequestsMeanOneThing : Type 0
RequestsMeanOneThing = (line : List ℕ) (a b : Request) → IsRequestLine line a → IsRequestLine line b → a ≡ b

-- the words of a request's line, between single blanks, are the request's words
abbrev pub RequestsAreTheirWords : Type 0
RequestsAreTheirWords = (r : Request) → IsRequest r → words_of (request_line r) ≡ request_words r

-- a line goes wrong at one place at most
abbrev pub RequestsGoWrongOnce : Type 0
RequestsGoWrongOnce = (line : List ℕ) (a b : ℕ) → IsRequestPlace line a → IsRequestPlace line b → a ≡ b
