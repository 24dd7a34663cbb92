use Rattle.asm_reading.proofs.LexemeLists.{led_name}
use Rattle.asm_reading.proofs.reading.line_led_by.Goals as goal

pub returns-in-Name : goal.returns-in-Name
returns-in-Name c = led_name _ _ _ _ _ _ c.in-Name.is c.text-text.ensures c.line_led_by_name.ensures
