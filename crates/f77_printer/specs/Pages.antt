-- What a page holds.
use Rattle.f77_printer.specs.declared.page.Page.{Page}
use Rattle.f77_printer.specs.PageText.{PageTree}

abbrev pub page_tree : Page → PageTree
page_tree p = record { text = p.text; spots = p.spots.now }
