mod Widgets
