use Rattle.grasp_text.proofs.Readers.{numbers_taken, texts_taken, values_taken, optional_values_taken, addresses_taken}
use Rattle.grasp_text.proofs.message.words_are_taken.Goals as goal

pub returns-clause-numbers : goal.returns-clause-numbers
returns-clause-numbers c = numbers_taken

pub returns-clause-texts : goal.returns-clause-texts
returns-clause-texts c = texts_taken

pub returns-clause-values : goal.returns-clause-values
returns-clause-values c = values_taken

pub returns-clause-optional_values : goal.returns-clause-optional_values
returns-clause-optional_values c = optional_values_taken

pub returns-clause-addresses : goal.returns-clause-addresses
returns-clause-addresses c = addresses_taken
