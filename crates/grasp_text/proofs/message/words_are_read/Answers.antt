use Rattle.grasp_text.proofs.Readers.{numbers_read, texts_read, values_read, addresses_read, objectives_read, locators_read, optional_locators_read}
use Rattle.grasp_text.proofs.message.words_are_read.Goals as goal

pub returns-clause-numbers : goal.returns-clause-numbers
returns-clause-numbers c = numbers_read

pub returns-clause-texts : goal.returns-clause-texts
returns-clause-texts c = texts_read

pub returns-clause-values : goal.returns-clause-values
returns-clause-values c = values_read

pub returns-clause-addresses : goal.returns-clause-addresses
returns-clause-addresses c = addresses_read

pub returns-clause-objectives : goal.returns-clause-objectives
returns-clause-objectives c = objectives_read

pub returns-clause-locators : goal.returns-clause-locators
returns-clause-locators c = locators_read

pub returns-clause-optional_locators : goal.returns-clause-optional_locators
returns-clause-optional_locators c = optional_locators_read
