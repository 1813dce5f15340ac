-- What the words of specs/ give.
--   Reading     numbers read byte by byte are those that the text spells
--   Turns       the turns of the loop that reads them
--   Saying      what a line says, from its parts
mod Reading
mod Turns
mod Saying
