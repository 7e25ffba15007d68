-- The windows that a decoded list holds.
use Rattle.std.specs.Prelude.{List, take}
use Rattle.windows.specs.declared.list.{Window.Window, WindowList.WindowList}

abbrev pub listed : WindowList → List Window
listed l = take l.count l.windows
